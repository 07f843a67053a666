-- Laws of layouts. Each is proved, and a call of the crate stands for it.
-- OpenTelemetry metrics data model, "Histogram": the bucket counts sum to the count, there is one more of them than bounds, and the
-- bounds increase. OpenMetrics 1.0, "Histogram": the buckets are cumulative.
use Rattle.std.specs.Prelude.{◌≡◌, ℕ, ◌+◌, true, List, [], ◌∷◌, length}
use Rattle.std.specs.List.{sum}
use Rattle.std.specs.List.Sorted.{IsStrictlySortedBy}
use Rattle.exact_decimal.specs.Decimals.{decimal_cmp}
use Rattle.page_model.specs.declared.page.Bucket.{Bucket}
use Rattle.histogram_layout.specs.Layouts.{are_cumulative, cumulative_counts, layout_of}

-- the sums of the numbers so far, from a number on
abbrev pub running_sums : ℕ → List ℕ → List ℕ
running_sums before [] = []
running_sums before (n ∷ ns) = (before + n) ∷ running_sums (before + n) ns

-- the counts sum to the count
abbrev pub CountsSumToCount : Type 0
CountsSumToCount = (buckets : List Bucket) → are_cumulative buckets ≡ true → sum (layout_of buckets).counts ≡ (layout_of buckets).count

-- the running sums of the counts are the cumulative counts
abbrev pub RunningSumsAreCumulative : Type 0
RunningSumsAreCumulative = (buckets : List Bucket) → are_cumulative buckets ≡ true → running_sums 0 (layout_of buckets).counts ≡ cumulative_counts buckets

-- there is one count more than there are bounds
abbrev pub OneCountMore : Type 0
OneCountMore = (buckets : List Bucket) → are_cumulative buckets ≡ true → length (layout_of buckets).counts ≡ length (layout_of buckets).bounds + 1

-- the bounds increase
abbrev pub BoundsIncrease : Type 0
BoundsIncrease = (buckets : List Bucket) → are_cumulative buckets ≡ true → IsStrictlySortedBy decimal_cmp (layout_of buckets).bounds
