use Rattle.target_table.proofs.OneOutcome.{has_one_outcome}
use Rattle.target_table.proofs.table_laws.one_outcome.Goals as goal

pub returns : goal.returns
returns c = has_one_outcome
