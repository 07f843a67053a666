use Rattle.std.proofs.Common.{◌∙◌, [], ◌∷◌, ◌++◌, map, ap}
use Rattle.label_sets.specs.declared.kind.Kind.TheVariants.{Unknown}
use Rattle.family_metrics.specs.Scopes.{scope_of}
use Rattle.family_metrics.specs.MarkerGroups.{identity_bytes}
use Rattle.scope_metrics.specs.ScopeParts.{part_identity}
use Rattle.scope_metrics.proofs.ScopeItems.{found_part, new_part}
use Rattle.scope_metrics.proofs.scope_parts.ScopeParts.place_for.Goals as goal

pub returns-in-Some : goal.returns-in-Some
returns-in-Some c =
    found_part (scope_of c.args.labels.now) c.args.self.now c.self.inside.parts.items c.self.inside.scopes c.as_slice-packed.result.now c.in-Some.at
    (c.as_slice-packed.ensures.value ∙ c.in_ok-pack.ensures ∙ (λ i. identity_bytes (c.scope_bytes.ensures.name i) Unknown (c.scope_bytes.ensures.version i)))
    (c.self.invariant ∙ ap (map part_identity) c.self.view_is) c.in-Some.ensures c.self.view_is

pub returns-in_ok-push_keyed-in-None : goal.returns-in_ok-push_keyed-in-None
returns-in_ok-push_keyed-in-None c =
    new_part (scope_of c.args.labels.now) c.args.self.now c.push_keyed.new.values.items c.self.inside.scopes c.as_slice-packed.result.now c.len-at.result c.in_ok-part-in-None.part
    (c.as_slice-packed.ensures.value ∙ c.in_ok-pack.ensures ∙ (λ i. identity_bytes (c.scope_bytes.ensures.name i) Unknown (c.scope_bytes.ensures.version i)))
    (c.self.invariant ∙ ap (map part_identity) c.self.view_is) c.in-None.ensures c.len-at.ensures c.in_ok-part-in-None.ensures
    (c.in_ok-push_keyed-in-None.ensures.values ∙ ap (λ l. l ++ c.in_ok-part-in-None.part ∷ []) c.self.view_is)
