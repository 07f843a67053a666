use Rattle.std.proofs.Common.{List, [], ◌∷◌, ◌++◌, ap, ◌∙◌}
use Rattle.family_metrics.specs.declared.markers.Marker.{Marker}
use Rattle.target_core.proofs.Stepping.{markers_more}
use Rattle.target_core.proofs.gone.markers_of.Goals as goal

pub loop-place-preserved : goal.loop-place-preserved
loop-place-preserved c = λ start own.
    c.in_ok-push.ensures.items
    ∙ ap (λ (ms : List Marker). ms ++ record { key = c.in_ok-copy.field-0; start = c.start_by.result; time = c.args.moment } ∷ []) (c.loop-place.invariant start own)
    ∙ markers_more start c.args.moment c.args.gone.now c.args.starts.now c.loop-place.place c.index-gone-place.result c.in_ok-copy.field-0 c.start_by.result
    c.loop-place-test.true c.index-gone-place.is c.in_ok-copy.ensures c.start_by.ensures own
