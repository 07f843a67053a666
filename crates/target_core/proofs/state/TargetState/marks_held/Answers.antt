use Rattle.std.proofs.Common.{sym, ap, ◌∙◌}
use Rattle.target_core.specs.States.{Following}
use Rattle.target_pages.specs.Stretches.{without_info}
use Rattle.target_core.proofs.Stepping.{held_by_page}
use Rattle.target_core.proofs.state.TargetState.marks_held.Goals as goal

pub returns-in-None : goal.returns-in-None
returns-in-None c =
    held_by_page c.page_marks.result c.args.self.now c.honor.result c.series.result.now
    (sym (ap (λ (s : Following). s.marks) c.self.view_is) ∙ c.in-None.is)
    (c.honor.ensures ∙ ap (λ (s : Following). s.target.honor) c.self.view_is)
    (c.series.ensures ∙ ap (λ (s : Following). without_info s.page) c.self.view_is) c.page_marks.ensures
