use Rattle.std.proofs.Common.{List, refl, sym, ap, subst, ◌∙◌}
use Rattle.family_metrics.specs.Scopes.{scope_of}
use Rattle.scope_metrics.specs.ScopeParts.{OfScope, of_marker, IsPartFor}
use Rattle.scope_metrics.proofs.ScopeItems.{put_in, bytes_set}
use Rattle.scope_metrics.proofs.scope_parts.ScopeParts.add_marker.Goals as goal

pub invariant_of-self : goal.invariant_of-self
invariant_of-self c = c.self.invariant ∙ sym (bytes_set c.self.inside.parts.items c.in_ok-at.at c.add_marker.new.self c.index_mut.result.now (c.add_marker.ensures.scope ∙ ap (λ (q : OfScope). q.scope) c.index_mut.ensures.value))

pub invariant_of-self-2 : goal.invariant_of-self-2
invariant_of-self-2 c = c.self.invariant ∙ sym (bytes_set c.self.inside.parts.items c.in_ok-at.at c.add_marker.new.self c.index_mut.result.now (c.add_marker.ensures.scope ∙ ap (λ (q : OfScope). q.scope) c.index_mut.ensures.value))

pub returns : goal.returns
returns c = λ items is.
    put_in items (of_marker c.args.marker) c.args.self.now c.self.inside.parts.items _ c.in_ok-at.at c.index_mut.result.now c.add_marker.new.self is
    (subst (λ (l : List OfScope). IsPartFor (scope_of c.args.marker.key.labels) c.args.self.now l c.in_ok-at.at) (sym c.self.view_is) c.in_ok-at.ensures)
    c.index_mut.ensures.value c.in_ok-add_marker.ensures.put refl
