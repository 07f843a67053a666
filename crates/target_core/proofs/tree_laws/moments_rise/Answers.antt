use Rattle.target_core.proofs.Rising.{moments_rise}
use Rattle.target_core.proofs.tree_laws.moments_rise.Goals as goal

pub returns : goal.returns
returns c = moments_rise
