use Rattle.std.proofs.Common.{◌≡◌, map, take}
use Rattle.target_pages.specs.Thinned.{bare_family}
use Rattle.target_pages.proofs.shown.bare_families.Given as goal

-- the families passed without exemplars
abbrev pub invariant-loop-family : goal.invariant-loop-family
invariant-loop-family l = l.bare.items ≡ map bare_family (take l.family-index l.families)
