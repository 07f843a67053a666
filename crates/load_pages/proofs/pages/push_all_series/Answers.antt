use Rattle.std.proofs.Common.{arith}
use Rattle.load_pages.proofs.LoadLaws.{series_more}
use Rattle.load_pages.proofs.pages.push_all_series.Goals as goal

pub loop-series-preserved : goal.loop-series-preserved
loop-series-preserved c =
    (omega (arith, c.loop-series-test.true), series_more c.args.number c.args.target c.args.round c.loop-series.series _ _ _ c.loop-series.invariant.1 c.in_ok-push_series_had.ensures)
