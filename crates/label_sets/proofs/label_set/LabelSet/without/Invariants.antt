use Rattle.std.proofs.Common.{◌≡◌, take}
use Rattle.label_sets.specs.Labels.{without_label}
use Rattle.label_sets.proofs.label_set.LabelSet.without.Given as goal

abbrev pub invariant-loop-label : goal.invariant-loop-label
invariant-loop-label l = l.labels.items ≡ without_label l.name (take l.label-index l.label-items)
