use Rattle.std.proofs.Common.{◌∙◌, ◌-◌, ap, Some, subst}
use Rattle.std.specs.Vec.{vec_capacity}
use Rattle.target_table.specs.Tables.{Held, PutsTarget}
use Rattle.target_table.proofs.Tabled.{put_keeps}
use Rattle.series_table.specs.HttpTalks.{talking}
use Rattle.target_table.proofs.Taking.{put_place, lease_of, puts, still_room}
use Rattle.target_table.proofs.table.Table.put.Goals as goal

pub put_in-requires-clause-within : goal.put_in-requires-clause-within
put_in-requires-clause-within g c = λ _ _. (put_place talking g.N.RunName.run (record { slots = c.self.inside.slots.items; books = c.self.inside.books; seen = c.self.inside.seen.items }) g.S.Seat.lane c.args.lease.number c.self.invariant.1 (c.release.ensures.was ∙ ap Some c.requires.held) c.args.lease.some).0

pub put_in-requires-clause-empty : goal.put_in-requires-clause-empty
put_in-requires-clause-empty g c = λ _ _. (put_place talking g.N.RunName.run (record { slots = c.self.inside.slots.items; books = c.self.inside.books; seen = c.self.inside.seen.items }) g.S.Seat.lane c.args.lease.number c.self.invariant.1 (c.release.ensures.was ∙ ap Some c.requires.held) c.args.lease.some).2

pub put_seen-requires : goal.put_seen-requires
put_seen-requires g c = record { within = (put_place talking g.N.RunName.run (record { slots = c.self.inside.slots.items; books = c.self.inside.books; seen = c.self.inside.seen.items }) g.S.Seat.lane c.args.lease.number c.self.invariant.1 (c.release.ensures.was ∙ ap Some c.requires.held) c.args.lease.some).1 }

pub invariant_of-self : goal.invariant_of-self
invariant_of-self g c = (
  c.self.invariant.0,
  put_keeps talking g.N.RunName.run g.S.Seat.lane (record { slots = c.self.inside.slots.items; books = c.self.inside.books; seen = c.self.inside.seen.items })
      (record { slots = c.put_in.new.slots.items; books = c.release.new.books; seen = c.put_seen.new.seen.items })
      (record { number = c.args.lease.number; track = c.args.lease.track; from = c.args.lease.from }) _ c.args.lease.track.followed c.self.invariant.1
      (lease_of talking g.N.RunName.run c.args.lease.number c.args.lease.from c.args.lease.track c.args.lease.some c.args.lease.target c.args.lease.scrape_place c.args.lease.post_place c.args.lease.left c.facts.ensures)
      c.requires.due (c.release.ensures.was ∙ ap Some c.requires.held)
      (puts g.S.Seat.lane c.args.lease.number c.args.lease.from (record { slots = c.self.inside.slots.items; books = c.self.inside.books; seen = c.self.inside.seen.items })
      (record { slots = c.put_in.new.slots.items; books = c.release.new.books; seen = c.put_seen.new.seen.items }) c.args.lease.track c.take_second-second.new.self c.take_second-second.result c.args.lease.some
      c.put_in.ensures.after c.take_second-second.ensures.after c.release.ensures.books c.put_seen.ensures.after c.take_second-second.ensures.second),
  c.self.invariant.2,
  still_room _ c.self.inside.slots.items c.put_in.new.slots.items (c.args.lease.number - 1) (vec_capacity c.self.inside.home) c.put_in.ensures.after c.self.invariant.3,
)

pub returns-clause-put : goal.returns-clause-put
returns-clause-put g c = subst (λ (v : Held). PutsTarget g.S.Seat.lane v (record { slots = c.put_in.new.slots.items; books = c.release.new.books; seen = c.put_seen.new.seen.items }) (record { number = c.args.lease.number; track = c.args.lease.track; from = c.args.lease.from })) c.self.view_is
    (puts g.S.Seat.lane c.args.lease.number c.args.lease.from (record { slots = c.self.inside.slots.items; books = c.self.inside.books; seen = c.self.inside.seen.items })
    (record { slots = c.put_in.new.slots.items; books = c.release.new.books; seen = c.put_seen.new.seen.items }) c.args.lease.track c.take_second-second.new.self c.take_second-second.result c.args.lease.some
    c.put_in.ensures.after c.take_second-second.ensures.after c.release.ensures.books c.put_seen.ensures.after c.take_second-second.ensures.second)
