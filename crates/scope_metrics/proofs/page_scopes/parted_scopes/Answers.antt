use Rattle.std.proofs.Common.{◌∙◌}
use Rattle.std.proofs.lemmas.Result.{IfOk-weaker}
use Rattle.scope_metrics.specs.PageScopes.{AreSeriesScopes}
use Rattle.scope_metrics.specs.ScopeParts.{AreScopesOfParts}
use Rattle.scope_metrics.proofs.ScopedMetrics.{scopes_from_parts}
use Rattle.scope_metrics.proofs.page_scopes.parted_scopes.Goals as goal

pub returns : goal.returns
returns c =
    let fs = c.args.families.now in
    let ms = c.args.markers.items in
    let parts = c.into_parts.result.items in
    IfOk-weaker c.scopes_of_parts.result (λ scopes. AreScopesOfParts parts scopes.items) (λ scopes. AreSeriesScopes fs c.args.places.now ms scopes.items)
    (λ scopes are place own. let both = scopes_from_parts place fs ms parts c.requires.alike (c.into_parts.ensures ∙ c.in_ok-parts.ensures place own) in are place both.0 ∙ both.1) c.scopes_of_parts.ensures
