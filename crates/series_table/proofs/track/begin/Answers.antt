use Rattle.std.proofs.Common.{◌∙◌, ap, subst, []}
use Rattle.bridge_ports.specs.Targets.{Scraped}
use Rattle.target_core.specs.Events.{latest_shown}
use Rattle.target_core.specs.States.{StandsFor}
use Rattle.series_table.proofs.track.begin.Goals as goal

pub returns-clause-state : goal.returns-clause-state
returns-clause-state c =
    subst (λ (target : Scraped). StandsFor target (record { keep = c.args.keep; honor = target.honor }) c.in_ok-state.state []) c.in_ok-copy.ensures c.in_ok-state.ensures

pub returns-clause-shown : goal.returns-clause-shown
returns-clause-shown c =
    c.in_ok-shown.ensures.latest c.in_ok-copy.field-0 (record { keep = c.args.keep; honor = c.in_ok-copy.field-0.honor }) [] c.in_ok-state.ensures ∙ ap (λ (target : Scraped). latest_shown target []) c.in_ok-copy.ensures
