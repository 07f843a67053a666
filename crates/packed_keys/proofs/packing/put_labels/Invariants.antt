use Rattle.std.proofs.Common.{take}
use Rattle.packed_keys.proofs.Put.{AreAdded}
use Rattle.packed_keys.proofs.packing.put_labels.Given as goal

abbrev pub invariant-loop-label : goal.invariant-loop-label
invariant-loop-label l = AreAdded l.initial.out.items l.out.items (take l.label-index l.label-items)
