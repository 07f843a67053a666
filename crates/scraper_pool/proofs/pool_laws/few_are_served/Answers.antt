use Rattle.scraper_pool.proofs.Served.{few_served}
use Rattle.scraper_pool.proofs.pool_laws.few_are_served.Goals as goal

pub returns : goal.returns
returns c = few_served
