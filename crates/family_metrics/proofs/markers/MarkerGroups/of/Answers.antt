use Rattle.std.proofs.Common.{◌∙◌, ap, sym, [], ◌∷◌, ◌++◌, append_assoc}
use Rattle.std.specs.Vec.Iter.{into_iter_items}
use Rattle.family_metrics.proofs.markers.MarkerGroups.of.Goals as goal

pub loop-marker-preserved : goal.loop-marker-preserved
loop-marker-preserved c =
    let done = c.loop-marker.invariant.0 in (
      done ++ c.in-Some.marker ∷ [],
      c.in_ok-add.ensures done c.loop-marker.invariant.1,
      append_assoc done (c.in-Some.marker ∷ []) (into_iter_items c.next.new.self) ∙ ap (λ l. done ++ l) (sym c.in-Some.ensures.steps.0) ∙ c.loop-marker.invariant.2,
    )
