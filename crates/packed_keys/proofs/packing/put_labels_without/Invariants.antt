use Rattle.std.proofs.Common.{take}
use Rattle.label_sets.specs.Labels.{without_label}
use Rattle.packed_keys.proofs.Put.{AreAdded}
use Rattle.packed_keys.proofs.packing.put_labels_without.Given as goal

abbrev pub invariant-loop-label : goal.invariant-loop-label
invariant-loop-label l = AreAdded l.initial.out.items l.out.items (without_label l.name (take l.label-index l.label-items))
