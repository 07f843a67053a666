use Rattle.std.proofs.Common.{sym, ◌∙◌}
use Rattle.std.proofs.lemmas.Result.{IfOk-weaker}
use Rattle.scope_metrics.specs.PageScopes.{IsBridgeScopeAlone, AreSeriesScopes}
use Rattle.scope_metrics.proofs.OneScope.{alone_here}
use Rattle.scope_metrics.proofs.Unnamed.{none_named}
use Rattle.scope_metrics.proofs.page_scopes.series_scopes.Goals as goal

pub bridge_scope_alone-requires : goal.bridge_scope_alone-requires
bridge_scope_alone-requires c =
    record { layout = c.requires.layout; scope = none_named c.args.families.now c.as_slice.result.now (sym c.if-all_name_none.ensures) }

pub returns-then-all_name_none : goal.returns-then-all_name_none
returns-then-all_name_none c =
    let fs = c.args.families.now in
    let places = c.args.places.now in
    let ms = c.args.markers.items in
    IfOk-weaker c.bridge_scope_alone.result (λ scopes. IsBridgeScopeAlone fs places ms scopes.items) (λ scopes. AreSeriesScopes fs places ms scopes.items)
    (λ scopes alone place own. alone place own ∙ alone_here place fs ms c.as_slice.result.now c.as_slice.ensures.value (sym c.if-all_name_none.ensures)) c.bridge_scope_alone.ensures
