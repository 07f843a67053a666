use Rattle.std.proofs.Common.{◌≡◌, drop}
use Rattle.std.specs.List.{list_any}
use Rattle.series_select.specs.SelectionSteps.{labels_hold, selectors_behind}
use Rattle.series_select.proofs.matching.some_labels_hold.Given as goal

-- none of the selectors passed holds
abbrev pub invariant-loop-selector : goal.invariant-loop-selector
invariant-loop-selector l = list_any (labels_hold l.reading) (selectors_behind l.selectors) ≡ list_any (labels_hold l.reading) (selectors_behind (drop l.selector-index l.selectors))
