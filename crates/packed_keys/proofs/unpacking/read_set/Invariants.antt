use Rattle.std.proofs.Common.{◌-◌, length}
use Rattle.packed_keys.proofs.Read.{IsReadTo}
use Rattle.packed_keys.proofs.unpacking.read_set.Given as goal

abbrev pub invariant-loop-left : goal.invariant-loop-left
invariant-loop-left l = IsReadTo l.bytes l.count l.labels.items l.left

abbrev pub decreases-loop-left : goal.decreases-loop-left
decreases-loop-left l = l.count - length l.labels.items
