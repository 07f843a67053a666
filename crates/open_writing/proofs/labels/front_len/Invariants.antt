use Rattle.std.proofs.Common.{◌≡◌, ◌≤◌, ◌+◌, ◌-◌, length, drop}
use Rattle.std.specs.List.{prefix_len}
use Rattle.open_writing.proofs.Places.{stays_before}
use Rattle.open_writing.proofs.labels.front_len.Given as goal

abbrev pub invariant-loop-count : goal.invariant-loop-count
invariant-loop-count l = (l.count ≤ length l.labels) × (prefix_len (stays_before l.name) l.labels ≡ l.count + prefix_len (stays_before l.name) (drop l.count l.labels))

abbrev pub decreases-loop-count : goal.decreases-loop-count
decreases-loop-count l = length l.labels - l.count
