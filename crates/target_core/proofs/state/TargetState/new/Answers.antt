use Rattle.std.proofs.Common.{Bool, [], subst}
use Rattle.start_times.specs.Rows.{Tracks}
use Rattle.target_core.proofs.Stepping.{new_stands}
use Rattle.target_core.proofs.state.TargetState.new.Goals as goal

pub returns : goal.returns
returns c =
    new_stands c.args.target c.args.keep c.empty.result c.new.result c.none.result c.empty.ensures
    (subst (λ (honor : Bool). Tracks (record { keep = c.args.keep; honor = honor }) c.new.result []) c.honor-honor.ensures c.new.ensures) c.none.ensures
