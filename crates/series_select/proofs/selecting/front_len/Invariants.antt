use Rattle.std.proofs.Common.{◌≡◌, ◌≤◌, ◌+◌, ◌-◌, length, drop}
use Rattle.std.specs.List.{prefix_len}
use Rattle.series_select.specs.SelectionSteps.{is_left, selectors_behind}
use Rattle.series_select.proofs.selecting.front_len.Given as goal

abbrev pub invariant-loop-count : goal.invariant-loop-count
invariant-loop-count l = (l.count ≤ length l.readings) × (prefix_len (is_left (selectors_behind l.named)) l.readings ≡ l.count + prefix_len (is_left (selectors_behind l.named)) (drop l.count l.readings))

abbrev pub decreases-loop-count : goal.decreases-loop-count
decreases-loop-count l = length l.readings - l.count
