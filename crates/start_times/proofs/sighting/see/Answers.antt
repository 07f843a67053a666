use Rattle.std.proofs.Common.{refl}
use Rattle.start_times.proofs.Sights.{passed_by, seen}
use Rattle.start_times.proofs.sighting.see.Goals as goal

pub returns-then-not-has_points-clause-seen : goal.returns-then-not-has_points-clause-seen
returns-then-not-has_points-clause-seen c = passed_by c.args.honor c.args.places.now c.args.rows.now c.args.moment c.args.reading.now c.args.seen.now _ c.has_points.result c.has_points.ensures c.if-not-has_points.true c.in_ok-push.ensures.items refl refl

pub returns-clause-seen : goal.returns-clause-seen
returns-clause-seen c = seen c.args.honor c.args.places.now c.args.rows.now c.args.moment c.args.reading.now c.args.seen.now _ c.in_ok-next.next.placed c.in_ok-next.next.row _ c.in_ok-at.at c.time_of-time.result c.has_points.result c.args.reading.now.key c.requires
    c.has_points.ensures c.if-not-has_points.false c.time_of-time.ensures c.in_ok-at.ensures.place c.row_at.ensures c.in_ok-next.ensures.placed c.in_ok-next.ensures.row refl c.in_ok-push-2.ensures.items c.in_ok-push-3.ensures c.mark.ensures
