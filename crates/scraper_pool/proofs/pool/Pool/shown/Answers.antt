use Rattle.std.specs.declared.vec.Vec.{Vec}
use Rattle.std.specs.declared.alloc.Global.{Global}
use Rattle.page_model.specs.declared.event.Shown.{Shown}
use Rattle.series_table.specs.HttpTalks.{talking}
use Rattle.scraper_pool.proofs.Federated.{are_seen}
use Rattle.scraper_pool.proofs.pool.Pool.shown.Goals as goal

pub returns : goal.returns
returns g c = are_seen (λ (v : Vec Shown Global). v.items) talking g.N.RunName.run _ c.shown.result c.shown.ensures.shown c.shown.ensures.table c.shown.ensures.showable
