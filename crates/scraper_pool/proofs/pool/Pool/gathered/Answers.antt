use Rattle.std.proofs.Common.{sym, subst}
use Rattle.series_table.specs.HttpTalks.{talking}
use Rattle.federation_page.specs.Gathering.{AreShowable}
use Rattle.scraper_pool.proofs.Federated.{seen_page}
use Rattle.scraper_pool.proofs.pool.Pool.gathered.Goals as goal

pub gather-requires : goal.gather-requires
gather-requires g c = subst AreShowable (sym c.as_slice.ensures.value) c.in-Ok.ensures.showable

pub returns-in-Ok : goal.returns-in-Ok
returns-in-Ok g c = seen_page talking g.N.RunName.run c.in-Ok.shown.items c.as_slice.result.now c.gather.result c.in-Ok.ensures c.as_slice.ensures.value c.gather.ensures.page c.gather.ensures.form
