use Rattle.series_table.specs.HttpTalks.{talking}
use Rattle.target_table.proofs.Isolated.{isolation, same_own_steps}
use Rattle.target_table.proofs.Paged.{pages_are_own, seen_until_put}
use Rattle.target_table.proofs.table_laws.isolation.Goals as goal

pub returns-clause-own : goal.returns-clause-own
returns-clause-own c = isolation talking

pub returns-clause-same : goal.returns-clause-same
returns-clause-same c = same_own_steps talking

pub returns-clause-pages : goal.returns-clause-pages
returns-clause-pages c = pages_are_own talking

pub returns-clause-until_put : goal.returns-clause-until_put
returns-clause-until_put c = seen_until_put
