use Rattle.label_sets.proofs.Seen.{SeenFront}
use Rattle.label_sets.proofs.sorting.first_repeat.Given as goal

abbrev pub invariant-loop-at : goal.invariant-loop-at
invariant-loop-at l = SeenFront l.labels l.at l.seen
