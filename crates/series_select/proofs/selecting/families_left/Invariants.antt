use Rattle.std.proofs.Common.{◌≡◌, take}
use Rattle.series_select.specs.Selection.{selected_families}
use Rattle.series_select.proofs.selecting.families_left.Given as goal

-- what is selected of the families passed
abbrev pub invariant-loop-family : goal.invariant-loop-family
invariant-loop-family l = l.selected.items ≡ selected_families l.list (take l.family-index l.families)
