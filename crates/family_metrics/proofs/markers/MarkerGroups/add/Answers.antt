use Rattle.std.proofs.Common.{ap, sym, ◌∙◌}
use Rattle.family_metrics.specs.MarkerGroups.{GroupedMarkers, identity_bytes}
use Rattle.family_metrics.proofs.Identities.{identities_set}
use Rattle.family_metrics.proofs.Grouped.{added_here, first_here}
use Rattle.family_metrics.proofs.markers.MarkerGroups.add.Goals as goal

pub invariant_of-self-in-Continue-branch-2 : goal.invariant_of-self-in-Continue-branch-2
invariant_of-self-in-Continue-branch-2 c = c.self.invariant ∙ sym (identities_set c.self.inside.groups.items c.in-Some.place c.add.new.self c.index_mut.result.now
    (ap (λ (g : GroupedMarkers). g.first) c.in_ok-add-in-Some.ensures.added ∙ ap (λ (g : GroupedMarkers). g.first) c.index_mut.ensures.value))

pub returns-in_ok-add-in-Some : goal.returns-in_ok-add-in-Some
returns-in_ok-add-in-Some c = λ ms is.
    added_here c.self.inside.groups.items c.self.inside.identities ms c.args.marker c.in-Some.place c.index_mut.result.now c.add.new.self _
    (c.as_slice.ensures.value ∙ c.in_ok-pack.ensures ∙ (λ i. identity_bytes (c.as_bytes.ensures i) c.args.marker.key.kind (c.as_bytes-2.ensures i))) c.in-Some.ensures c.self.invariant (c.self.view_is ∙ is) c.index_mut.ensures.value c.in_ok-add-in-Some.ensures.added

pub returns-in_ok-push_keyed-in-None : goal.returns-in_ok-push_keyed-in-None
returns-in_ok-push_keyed-in-None c = λ ms is.
    first_here c.self.inside.groups.items c.push_keyed.new.values.items c.self.inside.identities ms c.args.marker _ _
    (c.as_slice.ensures.value ∙ c.in_ok-pack.ensures ∙ (λ i. identity_bytes (c.as_bytes.ensures i) c.args.marker.key.kind (c.as_bytes-2.ensures i))) c.in-None.ensures c.self.invariant (c.self.view_is ∙ is) c.in_ok-group-in-None.ensures c.in_ok-push_keyed-in-None.ensures.values
