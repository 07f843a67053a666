use Rattle.label_sets.proofs.Places.{SortedFront}
use Rattle.label_sets.proofs.sorting.sort_few.Given as goal

abbrev pub invariant-loop-at : goal.invariant-loop-at
invariant-loop-at l = SortedFront l.initial.labels l.labels l.at
