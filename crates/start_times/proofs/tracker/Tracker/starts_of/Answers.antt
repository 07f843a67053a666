use Rattle.std.proofs.Common.{ap}
use Rattle.start_times.specs.Rows.{Tracked}
use Rattle.start_times.proofs.Sights.{starts_kept}
use Rattle.start_times.proofs.tracker.Tracker.starts_of.Goals as goal

pub returns : goal.returns
returns c = starts_kept c.args.self.now.rows c.self.inside.keys c.self.inside.rows c.args.keys.now c.as_slice.result.now c.in_ok-list.list c.in_ok-starts.starts.items c.self.invariant
    (ap (λ (k : Tracked). k.rows) c.self.view_is) c.as_slice.ensures c.in_ok-list.ensures c.in_ok-starts.ensures
