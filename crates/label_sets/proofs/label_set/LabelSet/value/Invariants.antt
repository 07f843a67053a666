use Rattle.std.proofs.Common.{◌≡◌, drop}
use Rattle.label_sets.specs.Labels.{label_value}
use Rattle.label_sets.proofs.label_set.LabelSet.value.Given as goal

abbrev pub invariant-loop-label : goal.invariant-loop-label
invariant-loop-label l = label_value l.name l.label-items ≡ label_value l.name (drop l.label-index l.label-items)
