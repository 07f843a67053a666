-- Explicit bounds and the counts between them, from cumulative buckets.
-- OpenTelemetry metrics data model, "Histogram" (explicit bounds, bucket counts, count); OpenMetrics 1.0, "Histogram" (cumulative
-- buckets, the last of them `+Inf`); "Prometheus and OpenMetrics Compatibility", "Histograms".
use Rattle.std.specs.Prelude.{ℕ, ◌-◌, Bool, false, ◌&&◌, List, [], ◌∷◌, map, filter_map, Option, Some, None, nat_le}
use Rattle.exact_decimal.specs.Decimals.{DecimalValue}
use Rattle.exact_decimal.specs.declared.number.Number.{Number}
use Rattle.exact_decimal.specs.declared.number.Number.TheVariants.{Finite}
use Rattle.exact_decimal.specs.Order.{less, is_finite}
use Rattle.page_model.specs.declared.page.Bucket.{Bucket}
use Rattle.page_model.specs.Rules.{is_up}
use Rattle.histogram_layout.specs.declared.intervals.Layout.{Layout}

-- ---- cumulative buckets

-- the first bucket has a finite bound, and the second a greater one and no smaller count
unfoldable pub may_follow : Bucket → Bucket → Bool
may_follow b c = is_finite b.le && less b.le c.le && nat_le b.count c.count

-- finite bounds increase, counts don't fall, and the bucket `+Inf` is the last
unfoldable pub are_cumulative : List Bucket → Bool
are_cumulative [] = false
are_cumulative (b ∷ []) = is_up b.le
are_cumulative (b ∷ c ∷ bs) = may_follow b c && are_cumulative (c ∷ bs)

-- ---- the layout

-- the decimal of a number that is finite
unfoldable pub finite_part : Number → Option DecimalValue
finite_part (Finite d) = Some d
finite_part _ = None

-- a bucket's upper bound, where it is finite
abbrev pub finite_bound : Bucket → Option DecimalValue
finite_bound b = finite_part b.le

-- how much each number is above the one before it, where one stands before the first
abbrev pub differences : ℕ → List ℕ → List ℕ
differences before [] = []
differences before (n ∷ ns) = (n - before) ∷ differences n ns

-- the last of numbers, or the one before them
abbrev pub last_from : ℕ → List ℕ → ℕ
last_from before [] = before
last_from before (n ∷ ns) = last_from n ns

-- the cumulative counts
abbrev pub cumulative_counts : List Bucket → List ℕ
cumulative_counts buckets = map (λ (b : Bucket). b.count) buckets

-- the finite bounds, the counts between them, and the count of all
unfoldable pub layout_of : List Bucket → Layout
layout_of buckets = record {
  bounds = filter_map finite_bound buckets;
  counts = differences 0 (cumulative_counts buckets);
  count = last_from 0 (cumulative_counts buckets);
}
