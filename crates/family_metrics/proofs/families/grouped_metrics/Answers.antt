use Rattle.family_metrics.proofs.FamilyMetrics.{event_metrics_are}
use Rattle.family_metrics.proofs.families.grouped_metrics.Goals as goal

pub returns : goal.returns
returns c = λ ms is place own.
    event_metrics_are place ms c.args.families.now c.in_ok-metrics.metrics.items c.push_alone.new.metrics.items c.page_metrics.new.groups c.as_slice.result.now
    (c.in_ok-metrics.ensures place ms own is) c.as_slice.ensures c.in_ok-push_alone.ensures
