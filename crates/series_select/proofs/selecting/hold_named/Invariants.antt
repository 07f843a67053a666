use Rattle.std.proofs.Common.{◌≡◌, filter, take}
use Rattle.series_select.specs.SelectionSteps.{names_hold, selectors_behind}
use Rattle.series_select.proofs.selecting.hold_named.Given as goal

-- those of the selectors passed that may match
abbrev pub invariant-loop-selector : goal.invariant-loop-selector
invariant-loop-selector l = selectors_behind l.named.items ≡ filter (names_hold l.family) (take l.selector-index l.list)
