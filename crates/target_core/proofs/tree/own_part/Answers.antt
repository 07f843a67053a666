use Rattle.std.proofs.Common.{◌++◌, List, map, sym, ap, subst, ◌∙◌}
use Rattle.std.specs.List.{AllByRecursion}
use Rattle.page_model.specs.declared.page.Family.{Family}
use Rattle.family_metrics.specs.Scopes.{target_scope}
use Rattle.family_metrics.specs.PlacedMarkers.{family_readings}
use Rattle.scope_metrics.specs.ScopeParts.{AreAlike}
use Rattle.scope_metrics.specs.PageScopes.{scope_with}
use Rattle.target_core.specs.Trees.{target_metrics}
use Rattle.target_core.proofs.Cumulative.{page_laid_out}
use Rattle.target_core.proofs.AlikeReadings.{right_alike}
use Rattle.target_core.proofs.PageScopes.{page_scopes_are}
use Rattle.target_core.proofs.tree.own_part.Goals as goal

pub series_scopes-requires-clause-layout : goal.series_scopes-requires-clause-layout
series_scopes-requires-clause-layout c = page_laid_out c.args.page.now c.as_slice-families.result.now (c.as_slice-families.ensures ∙ c.families.ensures.families) c.families.ensures.right

pub series_scopes-requires-clause-alike : goal.series_scopes-requires-clause-alike
series_scopes-requires-clause-alike c =
    subst (λ (fs : List Family). AllByRecursion AreAlike fs) (sym (c.as_slice-families.ensures ∙ c.families.ensures.families)) (right_alike c.args.page.now c.families.ensures.right)

pub returns : goal.returns
returns c = λ place own.
    let whole = c.as_slice-families.ensures ∙ c.families.ensures.families in
    let own_are = c.in_ok-scopes.ensures place (own ∙ ap (λ (fs : List Family). map place (family_readings fs)) (sym whole))
    ∙ page_scopes_are place c.args.markers.items c.args.page.now c.as_slice-families.result.now whole in
    let samples_are = c.from.ensures ∙ c.samples.ensures in
    let all = c.in_ok-scopes-2.ensures ∙ c.in_ok-push_target.ensures ∙ (λ i. own_are i ++ scope_with target_scope (target_metrics c.args.moment c.args.up (samples_are i))) in
    λ i. record { resource = c.in_ok-resource.ensures i; scopes = all i }
