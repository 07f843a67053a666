use Rattle.std.proofs.Common.{[], ◌∙◌}
use Rattle.start_times.specs.Starts.{reading_place}
use Rattle.target_core.specs.Stepping.{missed_markers}
use Rattle.target_core.specs.Trees.{request_of}
use Rattle.target_core.proofs.state.TargetState.tree_within.Goals as goal

pub returns-in-Ok : goal.returns-in-Ok
returns-in-Ok c = λ t past honor tracks distinct.
    let moment = c.args.moment in
    let seen = c.args.seen.now in
    let own = c.in_ok-starts.ensures t past tracks distinct in
    let s = c.args.self.now in
    let k = c.args.tracker.now in (
      c.in-Ok.ensures (reading_place t past moment) own.0 t honor tracks.once
          ∙ (λ i. request_of s.target s.resource (reading_place t past moment) (missed_markers t s k.rows (own.2 i) moment seen.series) moment seen.up seen.series []),
      own.1,
    )
