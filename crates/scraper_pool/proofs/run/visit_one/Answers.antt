use Rattle.scraper_pool.proofs.run.visit_one.Goals as goal

pub returns-clause-none : goal.returns-clause-none
returns-clause-none g c = λ e. absurd cc
