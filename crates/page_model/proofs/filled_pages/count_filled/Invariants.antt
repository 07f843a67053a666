use Rattle.std.proofs.Common.{◌≡◌, ◌≤◌, take}
use Rattle.std.specs.Prelude.{count_by}
use Rattle.page_model.specs.Presence.{has_readings}
use Rattle.page_model.proofs.filled_pages.count_filled.Given as goal

-- those of the families passed that have readings
abbrev pub invariant-loop-family : goal.invariant-loop-family
invariant-loop-family l = (l.count ≡ count_by has_readings (take l.family-index l.families)) × (l.count ≤ l.family-index)
