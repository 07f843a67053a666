use Rattle.std.proofs.Common.{◌≤◌, length, drop}
use Rattle.label_sets.proofs.Places.{IsBelow}
use Rattle.label_sets.proofs.sorting.place.Given as goal

abbrev pub invariant-loop-at : goal.invariant-loop-at
invariant-loop-at l = (l.at ≤ length l.sorted) × IsBelow l.name (drop l.at l.sorted)

abbrev pub decreases-loop-at : goal.decreases-loop-at
decreases-loop-at l = l.at
