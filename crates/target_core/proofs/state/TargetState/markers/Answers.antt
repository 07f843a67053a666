use Rattle.std.specs.Option.{option_copied}
use Rattle.staleness.specs.Vanished.{page_or_empty}
use Rattle.target_core.proofs.Stepping.{markers_lacked}
use Rattle.target_core.proofs.state.TargetState.markers.Goals as goal

pub returns : goal.returns
returns c =
    markers_lacked (λ v. v.items) c.markers_of.result c.args.self.now c.args.tracker.now.rows c.args.moment (page_or_empty (option_copied c.args.now)) c.in_ok-gone.gone c.as_slice.result.now c.as_slice-2.result.now c.in_ok-starts.starts.list
    c.in_ok-gone.ensures c.in_ok-starts.ensures c.as_slice.ensures c.as_slice-2.ensures c.markers_of.ensures
