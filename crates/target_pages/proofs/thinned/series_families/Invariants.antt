use Rattle.std.proofs.Common.{◌≡◌, map, take}
use Rattle.target_pages.specs.SeriesPages.{series_family}
use Rattle.target_pages.proofs.thinned.series_families.Given as goal

-- what is left of the families passed
abbrev pub invariant-loop-family : goal.invariant-loop-family
invariant-loop-family l = l.left.items ≡ map series_family (take l.family-index l.families)
