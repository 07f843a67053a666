use Rattle.series_table.specs.HttpTalks.{talking}
use Rattle.scraper_pool.specs.Federating.{IsSelectedPage}
use Rattle.scraper_pool.proofs.Served.{none_yet, one_more}
use Rattle.scraper_pool.proofs.pool.Pool.serve_pages.Goals as goal

pub loop-preserved : goal.loop-preserved
loop-preserved g c =
    one_more (IsSelectedPage talking g.N.RunName.run) (g.E.Door.door c.args.door.now) (g.E.Door.door c.loop.door) (g.E.Door.door c.serve_next.new.door) c.loop.counter c.loop.served
    (g.K.Conn.seen c.in-Ok.one.fresh.value) (g.K.Conn.seen c.in-Ok.one.back.value) c.in-Ok.one.count c.loop.invariant c.in-Ok.ensures.served

pub loop-init : goal.loop-init
loop-init g c = none_yet (IsSelectedPage talking g.N.RunName.run) (g.E.Door.door c.args.door.now) c.requires.1
