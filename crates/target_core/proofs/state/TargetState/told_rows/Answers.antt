use Rattle.std.specs.Prelude.{List}
use Rattle.std.specs.List.{IsDistinct}
use Rattle.std.specs.Map.{keys_of as row_keys}
use Rattle.std.proofs.lemmas.Result.{IfOk-weaker}
use Rattle.label_sets.specs.Keys.{key_eq}
use Rattle.start_times.specs.declared.row.Kept.{Kept}
use Rattle.start_times.specs.Keeping.{AreRowsOf}
use Rattle.target_core.specs.Keeping.{HasRows}
use Rattle.target_core.proofs.Checkpointed.{rows_kept}
use Rattle.target_core.proofs.state.TargetState.told_rows.Goals as goal

pub returns : goal.returns
returns c =
    let k = c.in_ok-tracker.tracker in
    IfOk-weaker c.kept-rows.result (λ (rows : List Kept). IsDistinct key_eq (row_keys k.rows) → AreRowsOf k rows) (HasRows c.args.self.now)
    (λ rows are. rows_kept c.args.self.now k rows c.in_ok-tracker.ensures are) c.kept-rows.ensures
