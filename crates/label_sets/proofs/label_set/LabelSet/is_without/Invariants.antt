use Rattle.std.proofs.Common.{◌≡◌, drop}
use Rattle.label_sets.specs.Labels.{label_sets_eq, without_label}
use Rattle.label_sets.proofs.label_set.LabelSet.is_without.Given as goal

abbrev pub invariant-loop-label : goal.invariant-loop-label
invariant-loop-label l = label_sets_eq (without_label l.name l.label-items) l.other ≡ label_sets_eq (without_label l.name (drop l.label-index l.label-items)) l.others
