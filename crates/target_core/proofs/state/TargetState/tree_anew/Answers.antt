use Rattle.std.proofs.Common.{[], ◌∙◌}
use Rattle.start_times.specs.Starts.{reading_place}
use Rattle.target_core.proofs.state.TargetState.tree_anew.Goals as goal

pub returns-in-Ok : goal.returns-in-Ok
returns-in-Ok c = λ t honor keep once distinct.
    let own = c.in_ok-starts.ensures t honor keep distinct in
    (c.in-Ok.ensures (reading_place t [] c.args.moment) (c.as_slice.ensures ∙ own.0) t honor once, own.1)
