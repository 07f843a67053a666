use Rattle.scraper_pool.proofs.Counted.{turns_told}
use Rattle.scraper_pool.proofs.pool_laws.turns_are_told.Goals as goal

pub returns : goal.returns
returns c = turns_told
