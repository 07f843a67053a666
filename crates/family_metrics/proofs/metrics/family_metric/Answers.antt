use Rattle.std.proofs.Common.{◌∙◌, ap, sym, Some, None}
use Rattle.family_metrics.proofs.FamilyMetrics.{metric_is}
use Rattle.family_metrics.proofs.metrics.family_metric.Goals as goal

pub returns-in_default-2 : goal.returns-in_default-2
returns-in_default-2 c = λ place own.
    metric_is place c.args.family.now c.args.places.now c.args.markers.now c.as_slice-readings.result.now c.in-Some.first.now None c.as_slice-readings.ensures c.in-Some.ensures.value
    (sym c.in_default-2.is ∙ c.in_ok-shape.ensures) own

pub returns : goal.returns
returns c = λ place own.
    ap Some c.in_ok-metric.ensures
    ∙ metric_is place c.args.family.now c.args.places.now c.args.markers.now c.as_slice-readings.result.now c.in-Some.first.now (Some c.in-Some-2.shape) c.as_slice-readings.ensures c.in-Some.ensures.value
    (sym c.in-Some-2.is ∙ c.in_ok-shape.ensures) own
