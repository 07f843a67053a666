use Rattle.std.proofs.Common.{◌≡◌, ◌∙◌, List, ap, subst}
use Rattle.std.specs.Prelude.{IfOk}
use Rattle.std.specs.List.{flat_map}
use Rattle.page_model.specs.declared.page.Family.{Family}
use Rattle.open_writing.specs.FamilyKeys.{family_key}
use Rattle.federation_page.specs.Candidates.{candidates_of}
use Rattle.federation_page.specs.Conflicts.{sorted_by_name, with_candidates}
use Rattle.federation_page.proofs.Sorting.{all_sorted_are}
use Rattle.federation_page.proofs.pages.gathered_families.Goals as goal

pub returns : goal.returns
returns c =
    subst (λ (fs : List Family). IfOk c.into_families.result (λ families. families ≡ fs))
    (ap (sorted_by_name family_key) (c.in_ok-take_targets.ensures.taken ∙ ap (λ fs. with_candidates fs (flat_map candidates_of c.args.shown.now)) c.new-founders.ensures.none) ∙ all_sorted_are (flat_map candidates_of c.args.shown.now))
    c.into_families.ensures
