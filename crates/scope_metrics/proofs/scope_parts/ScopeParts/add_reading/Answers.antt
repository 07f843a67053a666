use Rattle.std.proofs.Common.{List, refl, sym, ap, subst, ◌∙◌}
use Rattle.family_metrics.specs.Scopes.{scope_of}
use Rattle.scope_metrics.specs.ScopeParts.{OfScope, of_reading, IsPartFor}
use Rattle.scope_metrics.proofs.ScopeItems.{put_in, bytes_set}
use Rattle.scope_metrics.proofs.scope_parts.ScopeParts.add_reading.Goals as goal

pub invariant_of-self : goal.invariant_of-self
invariant_of-self c = c.self.invariant ∙ sym (bytes_set c.self.inside.parts.items c.in_ok-at.at c.add_reading.new.self c.index_mut.result.now (c.add_reading.ensures.scope ∙ ap (λ (q : OfScope). q.scope) c.index_mut.ensures.value))

pub invariant_of-self-2 : goal.invariant_of-self-2
invariant_of-self-2 c = c.self.invariant ∙ sym (bytes_set c.self.inside.parts.items c.in_ok-at.at c.add_reading.new.self c.index_mut.result.now (c.add_reading.ensures.scope ∙ ap (λ (q : OfScope). q.scope) c.index_mut.ensures.value))

pub returns : goal.returns
returns c = λ items is.
    put_in items (of_reading c.args.number c.args.family.now c.args.reading.now c.args.place) c.args.self.now c.self.inside.parts.items _ c.in_ok-at.at c.index_mut.result.now c.add_reading.new.self is
    (subst (λ (l : List OfScope). IsPartFor (scope_of c.args.reading.now.key.labels) c.args.self.now l c.in_ok-at.at) (sym c.self.view_is) c.in_ok-at.ensures)
    c.index_mut.ensures.value c.in_ok-add_reading.ensures.put refl
