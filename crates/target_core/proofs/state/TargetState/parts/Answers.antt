use Rattle.std.proofs.Common.{ap, ◌∙◌}
use Rattle.target_core.specs.States.{Following}
use Rattle.target_core.proofs.Checkpointed.{parts_kept}
use Rattle.target_core.proofs.state.TargetState.parts.Goals as goal

pub returns : goal.returns
returns c =
    parts_kept c.args.self.now c.self.inside.moment c.in_ok-resource.resource c.in_ok-rows.rows c.in_ok-marks.marks c.in_ok-rows.ensures c.in_ok-marks.ensures
    (ap (λ (s : Following). s.moment) c.self.view_is) (c.in_ok-resource.ensures ∙ ap (λ (s : Following). s.resource) c.self.view_is)
