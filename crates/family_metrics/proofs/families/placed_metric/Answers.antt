use Rattle.family_metrics.proofs.FamilyMetrics.{none_placed, placed_here}
use Rattle.family_metrics.proofs.families.placed_metric.Goals as goal

pub returns-in_default : goal.returns-in_default
returns-in_default c = λ place ms before own is.
    none_placed place c.args.family.now c.as_slice.result.now ms before c.args.groups.now c.as_slice.ensures c.in_default.ensures.value is

pub returns : goal.returns
returns c = λ place ms before own is.
    placed_here place c.args.family.now c.as_slice.result.now c.in-Some.first.now c.as_bytes.result.now c.as_bytes-2.result.now ms before c.in_ok-place.place c.args.groups.now c.place_of.new.self
    c.set_placed.new.self c.markers_at.result.now c.in_ok-metric.metric c.is_some.result c.as_slice.ensures c.in-Some.ensures.value c.as_bytes.ensures c.as_bytes-2.ensures is c.in_ok-place.ensures.place
    c.in_ok-place.ensures.same c.markers_at.ensures (c.in_ok-metric.ensures place own) c.is_some.ensures c.set_placed.ensures
