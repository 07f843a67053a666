use Rattle.std.proofs.Common.{◌≡◌, subst, ◌∙◌, None}
use Rattle.std.specs.Prelude.{IfOk}
use Rattle.page_model.specs.declared.event.Outcome.TheVariants.{Page}
use Rattle.start_times.specs.Scrapes.{moment_after}
use Rattle.bridge_ports.specs.Targets.{Scraped}
use Rattle.target_core.specs.Events.{event_request}
use Rattle.page_commands.proofs.commands.converting.first_event.Goals as goal

pub returns : goal.returns
returns c =
    subst (λ (t : Scraped). IfOk c.step-request.result (λ request. request ≡ event_request t (moment_after None c.args.nanos) (Page c.args.page)))
    (c.in_ok-state.ensures.target_is ∙ c.in_ok-target.ensures) (c.step-request.ensures.first c.in_ok-state.ensures.moment_is)
