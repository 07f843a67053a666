use Rattle.std.proofs.Common.{ap}
use Rattle.series_table.specs.HttpTalks.{talking}
use Rattle.scraper_pool.specs.Federating.{IsSelectedPage}
use Rattle.scraper_pool.proofs.Served.{served_one}
use Rattle.scraper_pool.proofs.pool.Pool.serve_next.Goals as goal

pub returns-in-Ok-clause-served : goal.returns-in-Ok-clause-served
returns-in-Ok-clause-served g c =
    let seen = g.K.Conn.seen in
    served_one (IsSelectedPage talking g.N.RunName.run) (g.E.Door.door c.args.door.now) (g.E.Door.door c.accept.new.self) (g.E.Door.door c.close.new.self) _ _ _ _ _ _ _ _ (seen c.in-Ok.conn) (seen c.serve_one.new.conn) _ _ _
    c.in-Ok.ensures.done (g.met.K.Conn.is_both c.in-Ok.conn) (ap seen c.of-fresh.ensures) (record { answer = c.serve_one.result; came_to = c.serve_one.ensures; count_is = c.served_count-count.ensures })
    (g.met.K.Conn.is_both c.serve_one.new.conn) (ap seen c.of-back.ensures) c.close.ensures
