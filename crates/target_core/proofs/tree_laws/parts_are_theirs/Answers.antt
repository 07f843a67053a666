use Rattle.target_core.proofs.Checkpointed.{parts_are_theirs}
use Rattle.target_core.proofs.tree_laws.parts_are_theirs.Goals as goal

pub returns : goal.returns
returns c = parts_are_theirs
