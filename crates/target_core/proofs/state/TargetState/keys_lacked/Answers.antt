use Rattle.std.proofs.Common.{sym, ap, ◌∙◌}
use Rattle.std.specs.Option.{option_copied}
use Rattle.staleness.specs.Vanished.{page_or_empty}
use Rattle.target_core.specs.States.{Following}
use Rattle.target_pages.specs.Stretches.{without_info}
use Rattle.target_core.proofs.Stepping.{lacked_of_page}
use Rattle.target_core.proofs.state.TargetState.keys_lacked.Goals as goal

pub returns-in-None : goal.returns-in-None
returns-in-None c =
    lacked_of_page c.vanished.result c.args.self.now c.honor.result c.series.result.now (page_or_empty (option_copied c.args.now))
    (sym (ap (λ (s : Following). s.marks) c.self.view_is) ∙ c.in-None.is)
    (c.honor.ensures ∙ ap (λ (s : Following). s.target.honor) c.self.view_is)
    (c.series.ensures ∙ ap (λ (s : Following). without_info s.page) c.self.view_is) c.vanished.ensures
