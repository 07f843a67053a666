use Rattle.std.proofs.Common.{ap, ◌∙◌}
use Rattle.target_core.specs.States.{Following}
use Rattle.target_core.proofs.Stepping.{no_rows_kept}
use Rattle.target_core.proofs.state.TargetState.no_rows.Goals as goal

pub returns : goal.returns
returns c =
    no_rows_kept c.from_kept.result c.args.self.now c.self.inside.keep c.honor.result c.new-none.result (ap (λ (s : Following). s.keep) c.self.view_is)
    (c.honor.ensures ∙ ap (λ (s : Following). s.target.honor) c.self.view_is) c.new-none.ensures c.from_kept.ensures
