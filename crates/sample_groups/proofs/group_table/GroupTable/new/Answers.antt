use Rattle.label_sets.specs.Labels.{label_sets_eq}
use Rattle.label_sets.proofs.Laws.{sets_decide}
use Rattle.sample_groups.proofs.BesideLaws.{beside_none}
use Rattle.sample_groups.proofs.group_table.GroupTable.new.Goals as goal

pub invariant_of-result : goal.invariant_of-result
invariant_of-result c = (beside_none label_sets_eq sets_decide c.new.result c.new-2.result.items c.new.ensures c.new-2.ensures.items, tt)
