use Rattle.series_table.proofs.Takings.{takes}
use Rattle.series_table.proofs.making.take_event.Goals as goal

pub returns-in-Ok-step : goal.returns-in-Ok-step
returns-in-Ok-step g c = (
  c.in-Ok.event,
  takes c.args.aim.now (g.W.Wire.state c.args.wire.now) (g.W.Wire.state c.scrape_again.new.wire) c.args.state.now c.step.new.self c.in-Ok.event
      (record { tree = c.in-Ok-step.tree; reading = c.in-Ok.event.reading; failed = c.has_failed-failed.result; fault = c.told_scrape-fault.result })
      c.in-Ok.ensures c.in-Ok-step.ensures.ok c.has_failed-failed.ensures,
)
