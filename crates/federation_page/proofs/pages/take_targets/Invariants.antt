use Rattle.std.proofs.Common.{◌≡◌, drop}
use Rattle.std.specs.List.{flat_map}
use Rattle.federation_page.specs.Candidates.{candidates_of}
use Rattle.federation_page.specs.Conflicts.{with_candidates}
use Rattle.federation_page.specs.Founding.{AreFounders}
use Rattle.federation_page.proofs.pages.take_targets.Given as goal

-- the candidates that are left give what all give
abbrev pub invariant-loop-target : goal.invariant-loop-target
invariant-loop-target l = AreFounders l.founders
    × (with_candidates l.founders.families.items (flat_map candidates_of (drop l.target-index l.shown)) ≡ with_candidates l.initial.founders.families.items (flat_map candidates_of l.shown))
