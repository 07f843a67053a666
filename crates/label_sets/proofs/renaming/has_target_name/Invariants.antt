use Rattle.std.proofs.Common.{◌≡◌, drop}
use Rattle.label_sets.specs.Labels.{has_target_name}
use Rattle.label_sets.proofs.renaming.has_target_name.Given as goal

abbrev pub invariant-loop-label : goal.invariant-loop-label
invariant-loop-label l = has_target_name l.labels ≡ has_target_name (drop l.label-index l.labels)
