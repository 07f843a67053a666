use Rattle.std.proofs.Common.{◌≡◌, ◌++◌, drop, filter_map}
use Rattle.histogram_layout.specs.Layouts.{finite_bound, differences, last_from, cumulative_counts}
use Rattle.histogram_layout.proofs.Sums.{RisesFrom}
use Rattle.histogram_layout.proofs.buckets.layout.Given as goal

-- what stands, with what the buckets to come give, is the layout of all
abbrev pub invariant-loop-bucket : goal.invariant-loop-bucket
invariant-loop-bucket l = record {
  bounds : l.bounds.items ++ filter_map finite_bound (drop l.bucket-index l.buckets) ≡ filter_map finite_bound l.fn.buckets;
  counts : l.counts.items ++ differences l.before (cumulative_counts (drop l.bucket-index l.buckets)) ≡ differences 0 (cumulative_counts l.fn.buckets);
  count : last_from l.before (cumulative_counts (drop l.bucket-index l.buckets)) ≡ last_from 0 (cumulative_counts l.fn.buckets);
  rises : RisesFrom l.before (cumulative_counts (drop l.bucket-index l.buckets));
}
