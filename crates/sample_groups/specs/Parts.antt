-- What a sample is to its metric, where the samples of several lines are one.
-- Prometheus text format 0.0.4, "Histograms and summaries"; OpenMetrics 1.0, "Counter", "Histogram", "GaugeHistogram", "Summary".
use Rattle.std.specs.Prelude.{ℕ, Bool, true, false, ◌&&◌, ◌||◌, List, [], codes, Option, Some, None, unwrap_or, if◌then◌else◌}
use Rattle.label_sets.specs.Lists.{◌>>=◌}
use Rattle.exact_decimal.specs.declared.number.Number.{Number}
use Rattle.exact_decimal.specs.Order.{whole}
use Rattle.label_sets.specs.declared.kind.Kind.{Kind}
use Rattle.label_sets.specs.declared.kind.Kind.TheVariants.{Counter}
use Rattle.label_sets.specs.declared.label_set.LabelSet.{LabelSet}
use Rattle.page_model.specs.declared.format.Format.{Format}
use Rattle.page_model.specs.declared.item.Sample.{Sample}
use Rattle.page_model.specs.declared.page.Quantile.{Quantile}
use Rattle.page_model.specs.Written.{Setting}
use Rattle.page_model.specs.Rules.{is_open_metrics, is_histogram, is_summary, is_bucket, is_count, has_suffix, sample_group}
use Rattle.page_model.specs.Readings.{bucket_of, quantile_of, stamp_nanos, within_time}
use Rattle.sample_groups.specs.Members.{Member}
use Rattle.sample_groups.specs.declared.part.Part.{Part}
use Rattle.sample_groups.specs.declared.part.Part.TheVariants as parts

-- a kind with totals
abbrev pub is_counter : Kind → Bool
is_counter Counter = true
is_counter _ = false

-- a kind of which several samples make one reading in this format: a counter's total and its created time in OpenMetrics
abbrev pub is_grouped : Format → Kind → Bool
is_grouped format kind = is_histogram kind || is_summary kind || (is_counter kind && is_open_metrics format)

-- a quantile, where the sample has a place for one, else a sum
abbrev pub quantile_part : Option Quantile → Number → Part
quantile_part None value = parts.Sum value
quantile_part (Some q) value = parts.Quantile q

-- a bucket, a count, a quantile, a total, a created time or a sum, by the suffix of the sample's name
unfoldable pub part_of : List ℕ → Sample → Part
part_of family s =
    if is_bucket family s then parts.Bucket (bucket_of s)
    else if is_count family s then parts.Count (unwrap_or (whole s.value) 0)
    else if has_suffix family [] s then quantile_part (quantile_of s) s.value
    else if has_suffix family (codes "_total") s then parts.Total s.value
    else if has_suffix family (codes "_created") s then parts.Created s.value
    else parts.Sum s.value

-- how many nanoseconds a millisecond has
abbrev pub nanos_per_millisecond : ℕ
nanos_per_millisecond = 1000000

-- the time that a stamp writes down, where it is one from 1970 on and no later than the latest
abbrev pub stamped_time : Format → Number → Option ℕ
stamped_time f stamp = stamp_nanos f stamp >>= within_time

-- the time of a sample's line
abbrev pub sample_time : Format → Sample → Option ℕ
sample_time f s = s.stamp >>= stamped_time f

-- what a sample gives its group
abbrev pub member_of : Format → List ℕ → Sample → Member
member_of f family s = record { part = part_of family s; time = sample_time f s; exemplar = s.exemplar }

-- a sample by the labels of its group and what it gives that
abbrev pub entry_of : Setting → Kind → List ℕ → Sample → LabelSet × Member
entry_of st kind family s = (sample_group st kind family s, member_of st.format family s)
