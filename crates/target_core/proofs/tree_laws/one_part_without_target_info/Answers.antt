use Rattle.target_core.proofs.Undescribed.{one_part_alone}
use Rattle.target_core.proofs.tree_laws.one_part_without_target_info.Goals as goal

pub returns : goal.returns
returns c = one_part_alone
