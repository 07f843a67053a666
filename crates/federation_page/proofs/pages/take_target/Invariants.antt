use Rattle.std.proofs.Common.{◌≡◌, drop, filter_map}
use Rattle.federation_page.specs.Candidates.{candidate_of}
use Rattle.federation_page.specs.Conflicts.{with_candidates}
use Rattle.federation_page.specs.Founding.{AreFounders}
use Rattle.federation_page.specs.SetsMade.{AreMadeFor}
use Rattle.federation_page.proofs.pages.take_target.Given as goal

-- the candidates that are left give what all give
abbrev pub invariant-loop-family : goal.invariant-loop-family
invariant-loop-family l = AreFounders l.founders
    × (with_candidates l.founders.families.items (filter_map (candidate_of l.target) (drop l.family-index l.families)) ≡ with_candidates l.initial.founders.families.items (filter_map (candidate_of l.target) l.families))
    × AreMadeFor l.target l.sets.made.items
