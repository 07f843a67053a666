use Rattle.series_table.specs.HttpTalks.{talking}
use Rattle.scraper_pool.specs.Federating.{IsSelectedPage}
use Rattle.scraper_pool.specs.Serving.{ServedSome}
use Rattle.scraper_pool.proofs.pool.Pool.serve_pages.Given as goal

abbrev pub invariant-loop : goal.invariant-loop
invariant-loop g l = ServedSome (IsSelectedPage talking g.N.RunName.run) (g.E.Door.door l.initial.door) (g.E.Door.door l.door) l.counter l.served
