use Rattle.std.proofs.Common.{◌≡◌, take}
use Rattle.std.specs.List.{sum_by}
use Rattle.series_table.specs.Counting.{valued_in, unvalued_in, as_count}
use Rattle.series_table.proofs.point_counts.of_metrics.Given as goal

-- the points of the metrics so far
abbrev pub invariant-loop-metric : goal.invariant-loop-metric
invariant-loop-metric l =
    (l.counts.valued ≡ as_count (sum_by valued_in (take l.metric-index l.metrics)))
    × (l.counts.unvalued ≡ as_count (sum_by unvalued_in (take l.metric-index l.metrics)))
