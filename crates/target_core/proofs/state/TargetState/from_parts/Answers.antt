use Rattle.target_core.proofs.Checkpointed.{taken_up}
use Rattle.target_core.proofs.state.TargetState.from_parts.Goals as goal

pub returns-in-Ok-clause-state : goal.returns-in-Ok-clause-state
returns-in-Ok-clause-state c = taken_up c.args.target c.args.keep c.args.parts c.honor.result c.in-Ok.tracker c.none.result c.honor.ensures c.in-Ok.ensures c.none.ensures
