use Rattle.std.proofs.Common.{◌≡◌, take}
use Rattle.page_model.specs.Presence.{filled_families}
use Rattle.page_model.proofs.filled_pages.filled_families.Given as goal

-- those of the families passed that have readings
abbrev pub invariant-loop-family : goal.invariant-loop-family
invariant-loop-family l = l.filled.items ≡ filled_families (take l.family-index l.families)
