use Rattle.std.proofs.Common.{◌≡◌, take}
use Rattle.sample_groups.proofs.group_labels.GroupLabels.seen.Given as goal

-- the sets that were passed are in the table
abbrev pub invariant-loop-at : goal.invariant-loop-at
invariant-loop-at l = l.sets ≡ take l.at l.self
