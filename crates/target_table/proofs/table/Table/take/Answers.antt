use Rattle.std.proofs.Common.{◌∙◌, ap, Some, arith, ◌+◌, refl, subst}
use Rattle.std.specs.Vec.{vec_capacity}
use Rattle.series_table.specs.declared.counts.Counts.{Counts}
use Rattle.target_table.specs.Tables.{Held, TakesTarget}
use Rattle.target_table.proofs.Tabled.{take_keeps}
use Rattle.series_table.specs.HttpTalks.{talking}
use Rattle.target_table.proofs.Taking.{turn_found, still_room, place_within, place_few, never_empty, taken, lease_facts}
use Rattle.target_table.proofs.table.Table.take.Goals as goal

pub take_out-requires-after_bounds : goal.take_out-requires-after_bounds
take_out-requires-after_bounds g c = λ _ _. place_within talking g.N.RunName.run _ c.in-Some.place c.self.invariant.1 (turn_found c.self.inside.rounds g.N.RunName.run.rounds c.self.inside.slots.items c.as_slice.result.now c.whose_turn.result c.in-Some.place c.self.invariant.0 c.as_slice.ensures.value c.whose_turn.ensures c.in-Some.is)

pub unreachable-requires : goal.unreachable-requires
unreachable-requires g c = never_empty g.N.RunName.run.rounds c.self.inside.slots.items c.in-Some.place
    (turn_found c.self.inside.rounds g.N.RunName.run.rounds c.self.inside.slots.items c.as_slice.result.now c.whose_turn.result c.in-Some.place c.self.invariant.0 c.as_slice.ensures.value c.whose_turn.ensures c.in-Some.is)
    (c.take_out.ensures.was ∙ ap Some c.in_default-take_out.is)

pub overflow_cast-number : goal.overflow_cast-number
overflow_cast-number g c =
    let few = place_few talking g.N.RunName.run _ c.in-Some.place c.self.invariant.1 (turn_found c.self.inside.rounds g.N.RunName.run.rounds c.self.inside.slots.items c.as_slice.result.now c.whose_turn.result c.in-Some.place c.self.invariant.0 c.as_slice.ensures.value c.whose_turn.ensures c.in-Some.is) in
    omega arith

pub overflow_add-number : goal.overflow_add-number
overflow_add-number g c =
    let few = place_few talking g.N.RunName.run _ c.in-Some.place c.self.invariant.1 (turn_found c.self.inside.rounds g.N.RunName.run.rounds c.self.inside.slots.items c.as_slice.result.now c.whose_turn.result c.in-Some.place c.self.invariant.0 c.as_slice.ensures.value c.whose_turn.ensures c.in-Some.is) in
    omega arith

pub invariant_of-result : goal.invariant_of-result
invariant_of-result g c =
    let facts = lease_facts talking g.N.RunName.run c.in-Some.place (c.in-Some.place + 1) c.counts.result.now.visits (record { slots = c.self.inside.slots.items; books = c.self.inside.books; seen = c.self.inside.seen.items }) c.in-Some-take_out.track c.self.invariant.1
    (turn_found c.self.inside.rounds g.N.RunName.run.rounds c.self.inside.slots.items c.as_slice.result.now c.whose_turn.result c.in-Some.place c.self.invariant.0 c.as_slice.ensures.value c.whose_turn.ensures c.in-Some.is)
    (c.take_out.ensures.was ∙ ap Some c.in-Some-take_out.is) refl (ap (λ (n : Counts). n.visits) c.counts.ensures) in
    record { some = facts.0; target = facts.1; scrape_place = facts.2; post_place = facts.3; left = facts.4; few = facts.5 }

pub invariant_of-self : goal.invariant_of-self
invariant_of-self g c = (
  c.self.invariant.0,
  take_keeps talking g.N.RunName.run g.S.Seat.lane (record { slots = c.self.inside.slots.items; books = c.self.inside.books; seen = c.self.inside.seen.items })
      (record { slots = c.take_out.new.slots.items; books = c.lease.new.books; seen = c.self.inside.seen.items }) _ c.self.invariant.1 c.lease.ensures.was
      (taken talking g.N.RunName.run g.S.Seat.lane c.in-Some.place (c.in-Some.place + 1) c.counts.result.now.visits (record { slots = c.self.inside.slots.items; books = c.self.inside.books; seen = c.self.inside.seen.items })
      (record { slots = c.take_out.new.slots.items; books = c.lease.new.books; seen = c.self.inside.seen.items }) c.in-Some-take_out.track c.self.invariant.1
      (turn_found c.self.inside.rounds g.N.RunName.run.rounds c.self.inside.slots.items c.as_slice.result.now c.whose_turn.result c.in-Some.place c.self.invariant.0 c.as_slice.ensures.value c.whose_turn.ensures c.in-Some.is)
      (c.take_out.ensures.was ∙ ap Some c.in-Some-take_out.is) refl (ap (λ (n : Counts). n.visits) c.counts.ensures) c.take_out.ensures.after
      c.lease.ensures.books refl),
  c.self.invariant.2,
  still_room _ c.self.inside.slots.items c.take_out.new.slots.items c.in-Some.place (vec_capacity c.self.inside.home) c.take_out.ensures.after c.self.invariant.3,
)

pub returns-clause-taken : goal.returns-clause-taken
returns-clause-taken g c = subst (λ (v : Held). TakesTarget talking g.N.RunName.run g.S.Seat.lane v (record { slots = c.take_out.new.slots.items; books = c.lease.new.books; seen = c.self.inside.seen.items }) (record { number = c.in-Some.place + 1; track = c.in-Some-take_out.track; from = c.counts.result.now.visits })) c.self.view_is
    (taken talking g.N.RunName.run g.S.Seat.lane c.in-Some.place (c.in-Some.place + 1) c.counts.result.now.visits (record { slots = c.self.inside.slots.items; books = c.self.inside.books; seen = c.self.inside.seen.items })
    (record { slots = c.take_out.new.slots.items; books = c.lease.new.books; seen = c.self.inside.seen.items }) c.in-Some-take_out.track c.self.invariant.1
    (turn_found c.self.inside.rounds g.N.RunName.run.rounds c.self.inside.slots.items c.as_slice.result.now c.whose_turn.result c.in-Some.place c.self.invariant.0 c.as_slice.ensures.value c.whose_turn.ensures c.in-Some.is)
    (c.take_out.ensures.was ∙ ap Some c.in-Some-take_out.is) refl (ap (λ (n : Counts). n.visits) c.counts.ensures) c.take_out.ensures.after
    c.lease.ensures.books refl)
