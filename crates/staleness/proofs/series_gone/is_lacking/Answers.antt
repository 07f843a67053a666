use Rattle.staleness.proofs.Lacking.{without_points, with_points}
use Rattle.staleness.proofs.series_gone.is_lacking.Goals as goal

pub returns-then-not-has_points-clause-lacking : goal.returns-then-not-has_points-clause-lacking
returns-then-not-has_points-clause-lacking c = without_points c.args.others.now c.args.key.now c.has_points.result c.has_points.ensures c.if-not-has_points.true

pub returns-clause-lacking : goal.returns-clause-lacking
returns-clause-lacking c = with_points c.args.others.now c.args.key.now c.has_points.result c.in_ok-find.field-0 c.is_none.result c.has_points.ensures c.if-not-has_points.false c.in_ok-find.ensures.place.there c.is_none.ensures
