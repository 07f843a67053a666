use Rattle.std.proofs.Common.{◌≡◌, ◌++◌, take}
use Rattle.target_core.specs.Trees.{label_attributes}
use Rattle.target_core.proofs.resource.push_labels.Given as goal

-- the labels so far stand behind the others
abbrev pub invariant-loop-label : goal.invariant-loop-label
invariant-loop-label l = l.attributes.items ≡ l.initial.attributes.items ++ label_attributes (take l.label-index l.labels)
