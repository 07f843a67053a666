-- The page of a list of lines without a fault: families in the order of their first line, readings in that of their groups.
-- OpenMetrics 1.0, "Data Model" (MetricSet, MetricFamily, Metric, MetricPoint); OpenTelemetry, "Prometheus and OpenMetrics Compatibility".
use Rattle.std.specs.Prelude.{ℕ, ◌*◌, ◌^◌, Bool, not, nat_le, List, [], ◌++◌, map, filter, filter_map, find, reverse, codes, count_by, Option, Some, None, option_map, option_and_then, unwrap_or, if◌then◌else◌}
use Rattle.std.specs.List.{list_any}
use Rattle.std.specs.Str.{bytes_eq}
use Rattle.label_sets.specs.declared.kind.Kind.{Kind}
use Rattle.label_sets.specs.declared.kind.Kind.TheVariants.{Counter, Histogram, GaugeHistogram, StateSet, Info, Summary}
use Rattle.label_sets.specs.declared.label_set.LabelSet.{LabelSet}
use Rattle.label_sets.specs.Lists.{first_of_each, first_some, ◌>>=◌, when_true}
use Rattle.label_sets.specs.Labels.{label_sets_eq}
use Rattle.exact_decimal.specs.declared.number.Number.{Number}
use Rattle.exact_decimal.specs.declared.number.Number.TheVariants.{Finite}
use Rattle.exact_decimal.specs.Order.{whole, nanos}
use Rattle.page_model.specs.declared.format.Format.{Format}
use Rattle.page_model.specs.declared.format.Format.TheVariants.{Text, OpenMetrics}
use Rattle.page_model.specs.declared.item.Item.{Item}
use Rattle.page_model.specs.declared.item.Sample.{Sample}
use Rattle.page_model.specs.declared.item.Exemplar.{Exemplar}
use Rattle.page_model.specs.declared.page.Bucket.{Bucket}
use Rattle.page_model.specs.declared.page.Quantile.{Quantile}
use Rattle.page_model.specs.declared.page.Value.{Value}
use Rattle.page_model.specs.declared.page.Value.TheVariants as values
use Rattle.page_model.specs.declared.page.Reading.{Reading}
use Rattle.page_model.specs.declared.page.Family.{Family}
use Rattle.page_model.specs.PageValues.{PageValue}
use Rattle.page_model.specs.Written.{Setting}
use Rattle.page_model.specs.Items.{is_sample, help_of_line, unit_of_line}
use Rattle.page_model.specs.Owners.{Owned, is_of, kind_of, owned_lines, samples_of, kept_labels, group_of}
use Rattle.page_model.specs.Rules.{has_suffix, is_bucket, may_have_exemplar, threshold, quantile_at}

-- ---- the parts of a reading, from the samples that share its labels, in page order

-- the value of the sample with this suffix
unfoldable pub value_with : List ℕ → List ℕ → List Sample → Option Number
value_with family suffix samples = option_map (λ (s : Sample). s.value) (find (has_suffix family suffix) samples)

-- the first value of two
abbrev pub either_value : Option Number → Option Number → Option Number
either_value None other = other
either_value (Some n) other = Some n

-- a bucket's bound and count
abbrev pub bucket_of : Sample → Bucket
bucket_of s = record { le = threshold s; count = unwrap_or (whole s.value) 0 }

-- the buckets among samples
unfoldable pub buckets_of : List ℕ → List Sample → List Bucket
buckets_of family samples = map bucket_of (filter (is_bucket family) samples)

-- a quantile at a place, where that is finite
abbrev pub placed_quantile : Number → Number → Option Quantile
placed_quantile (Finite d) value = Some (record { at = d; value = value })
placed_quantile _ value = None

-- a quantile's place and value
abbrev pub quantile_of : Sample → Option Quantile
quantile_of s = placed_quantile (quantile_at s) s.value

-- the quantiles among samples
unfoldable pub quantiles_of : List ℕ → List Sample → List Quantile
quantiles_of family samples = filter_map quantile_of (filter (has_suffix family []) samples)

-- the sum of a histogram's or a gauge histogram's observations
unfoldable pub sum_of : List ℕ → List Sample → Option Number
sum_of family samples = either_value (value_with family (codes "_sum") samples) (value_with family (codes "_gsum") samples)

-- a sample that is more than a created time
abbrev pub is_measured : List ℕ → Sample → Bool
is_measured family s = not (has_suffix family (codes "_created") s)

-- the suffix of a counter's own sample
abbrev pub counter_suffix : Format → List ℕ
counter_suffix Text = []
counter_suffix OpenMetrics = codes "_total"

-- the value of a reading, where its samples make one
unfoldable pub value_of : Format → Kind → List ℕ → List Sample → Option Value
value_of f Counter family samples = option_map values.Plain (value_with family (counter_suffix f) samples)
value_of f Info family samples = option_map values.Plain (value_with family (codes "_info") samples)
value_of f Histogram family samples = Some (values.Buckets (buckets_of family samples) (sum_of family samples))
value_of f GaugeHistogram family samples = Some (values.Buckets (buckets_of family samples) (sum_of family samples))
value_of f Summary family samples = if list_any (is_measured family) samples
    then Some (values.Quantiles (quantiles_of family samples) (option_and_then whole (value_with family (codes "_count") samples)) (sum_of family samples)) else None
value_of f _ family samples = option_map values.Plain (value_with family [] samples)

-- the name of a reading's key
abbrev pub key_name : Format → Kind → List ℕ → List ℕ
key_name f Counter family = family ++ counter_suffix f
key_name f Info family = family ++ codes "_info"
key_name f _ family = family

-- the labels of the reading to which a sample belongs: a state of a state set is a reading of its own
abbrev pub reading_labels : Setting → Kind → List ℕ → Sample → LabelSet
reading_labels st StateSet family s = kept_labels st.treatment s.labels
reading_labels st kind family s = group_of kind family (kept_labels st.treatment s.labels)

-- the latest time that a page may give, in nanoseconds since the Unix epoch
abbrev pub latest_time : ℕ
latest_time = 2 ^ 62

-- a time stamp as whole nanoseconds: milliseconds in text, seconds in OpenMetrics; none below zero
abbrev pub stamp_nanos : Format → Number → Option ℕ
stamp_nanos Text stamp = option_map (λ milliseconds. milliseconds * 1000000) (whole stamp)
stamp_nanos OpenMetrics stamp = nanos stamp

-- a time, where it isn't after the latest
abbrev pub within_time : ℕ → Option ℕ
within_time time = when_true (nat_le time latest_time) time

-- the time that a page gives a reading: that of its first sample that is more than a created time
unfoldable pub stamp_of : Format → List ℕ → List Sample → Option ℕ
stamp_of f family samples = find (is_measured family) samples >>= λ s. s.stamp >>= stamp_nanos f >>= within_time

-- the exemplars of a reading: that of a counter's total, or those of the buckets in their order
unfoldable pub exemplars_of : Kind → List ℕ → List Sample → List Exemplar
exemplars_of kind family samples = filter_map (λ (s : Sample). s.exemplar) (filter (may_have_exemplar kind family) samples)

-- ---- families and the page

-- the reading of the samples that share these labels
unfoldable pub reading_of : Setting → Kind → List ℕ → List ℕ → List Sample → LabelSet → Option Reading
reading_of st kind family unit samples labels =
    let own = filter (λ s. label_sets_eq (reading_labels st kind family s) labels) samples in
    option_map (λ value. record {
      key = record { name = key_name st.format kind family; kind = kind; unit = unit; labels = labels };
      value = value;
      created = value_with family (codes "_created") own;
      stamp = stamp_of st.format family own;
      exemplars = exemplars_of kind family own;
    }) (value_of st.format kind family own)

-- the readings of a family in the order of their first lines
unfoldable pub readings_of : Setting → Kind → List ℕ → List ℕ → List Sample → List Reading
readings_of st kind family unit samples =
    filter_map (reading_of st kind family unit samples) (first_of_each label_sets_eq (map (reading_labels st kind family) samples))

-- the text of a HELP line of the family
abbrev pub help_in : List ℕ → Owned → Option (List ℕ)
help_in family o = if is_of family o then help_of_line o.item else None

-- the unit of a UNIT line of the family
abbrev pub unit_in : List ℕ → Owned → Option (List ℕ)
unit_in family o = if is_of family o then unit_of_line o.item else None

-- a family of the page, from its lines in page order
unfoldable pub family_of : Setting → List Owned → List ℕ → Family
family_of st lines family =
    let kind = kind_of lines family in
    let unit = unwrap_or (first_some (unit_in family) lines) [] in
    record {
      name = family;
      kind = kind;
      help = unwrap_or (first_some (help_in family) lines) [];
      unit = unit;
      readings = readings_of st kind family unit (samples_of lines family);
    }

-- the names of the families in the order of their first lines
unfoldable pub families_of : List Owned → List (List ℕ)
families_of lines = first_of_each bytes_eq (map (λ (o : Owned). o.family) lines)

-- the page of the items of all lines, the last first
unfoldable pub page_of : Setting → List Item → PageValue
page_of st items =
    let lines = reverse (owned_lines st.format items) in
    record { families = map (family_of st lines) (families_of lines); samples = count_by is_sample items }
