use Rattle.std.proofs.Common.{ap, sym, ◌∙◌}
use Rattle.family_metrics.specs.MarkerGroups.{GroupedMarkers}
use Rattle.family_metrics.proofs.Identities.{identities_set}
use Rattle.family_metrics.proofs.markers.MarkerGroups.set_placed.Goals as goal

pub invariant_of-self : goal.invariant_of-self
invariant_of-self c = c.self.invariant ∙ sym (identities_set c.self.inside.groups.items c.in-Some.at c.place.new.self c.index_mut.result.now
    (ap (λ (g : GroupedMarkers). g.first) c.place.ensures ∙ ap (λ (g : GroupedMarkers). g.first) c.index_mut.ensures.value))
