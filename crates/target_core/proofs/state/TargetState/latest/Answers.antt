use Rattle.std.proofs.Common.{ap, ◌∙◌}
use Rattle.target_core.specs.States.{Following}
use Rattle.target_core.proofs.Stepping.{latest_is}
use Rattle.target_core.proofs.state.TargetState.latest.Goals as goal

pub returns-clause-latest : goal.returns-clause-latest
returns-clause-latest c = λ target t events stands.
    (λ i. record {
      job = (c.in_ok-job.ensures ∙ c.job.ensures.same ∙ ap (λ (s : Following). s.target.job) c.self.view_is) i;
      instance = (c.in_ok-instance.ensures ∙ c.instance.ensures.same ∙ ap (λ (s : Following). s.target.instance) c.self.view_is) i;
      moment = (c.self.view_is i).moment;
      page = (c.in_ok-page.ensures ∙ c.page.ensures ∙ ap (λ (s : Following). s.page) c.self.view_is) i;
    }) ∙ latest_is c.args.self.now target t events stands
