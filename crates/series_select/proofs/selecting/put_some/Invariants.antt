use Rattle.std.proofs.Common.{◌≡◌, ◌++◌, filter, take}
use Rattle.series_select.specs.SelectionSteps.{is_left, selectors_behind}
use Rattle.series_select.proofs.selecting.put_some.Given as goal

-- those of the readings passed that are left stand behind those that were there
abbrev pub invariant-loop-reading : goal.invariant-loop-reading
invariant-loop-reading l = l.kept.items ≡ l.initial.kept.items ++ filter (is_left (selectors_behind l.named)) (take l.reading-index l.readings)
