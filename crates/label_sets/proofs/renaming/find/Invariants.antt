use Rattle.std.proofs.Common.{◌≡◌, false, take}
use Rattle.label_sets.specs.Labels.{has_name}
use Rattle.label_sets.proofs.renaming.find.Given as goal

abbrev pub invariant-loop-at : goal.invariant-loop-at
invariant-loop-at l = has_name (take l.at l.labels) l.name ≡ false
