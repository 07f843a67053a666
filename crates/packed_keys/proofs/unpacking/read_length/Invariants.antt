use Rattle.std.proofs.Common.{length}
use Rattle.packed_keys.proofs.Read.{IsReading}
use Rattle.packed_keys.proofs.unpacking.read_length.Given as goal

abbrev pub invariant-loop-first : goal.invariant-loop-first
invariant-loop-first l = IsReading l.bytes l.left l.length

abbrev pub decreases-loop-first : goal.decreases-loop-first
decreases-loop-first l = length l.left
