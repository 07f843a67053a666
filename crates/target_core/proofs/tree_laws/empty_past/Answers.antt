use Rattle.target_core.proofs.EmptyPast.{empty_past}
use Rattle.target_core.proofs.tree_laws.empty_past.Goals as goal

pub returns : goal.returns
returns c = empty_past
