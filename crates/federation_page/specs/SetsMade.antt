-- The sets of a page that were made with the labels of its target.
-- The bridge's own.
use Rattle.std.specs.Prelude.{◌≡◌, List, All}
use Rattle.page_model.specs.declared.event.Shown.{Shown}
use Rattle.federation_page.specs.declared.target_sets.TargetSet.{TargetSet}
use Rattle.federation_page.specs.Candidates.{with_target}

-- each is the page's set with the labels of this target
abbrev pub AreMadeFor : Shown → List TargetSet → Type 0
AreMadeFor s sets = All (λ (one : TargetSet). one.whole ≡ with_target s.job s.instance one.own) sets
