-- The rules that look at the lines above, each on its own. `above` are the owned lines above, the nearest first.
-- OpenMetrics 1.0, "Overall Structure", "MetricFamily", "Metric types", "Exemplars"; Prometheus text format 0.0.4, "Text format details".
use Rattle.std.specs.Prelude.{ℕ, ◌+◌, Bool, true, false, not, ◌&&◌, ◌||◌, List, [], ◌∷◌, filter, find, codes, count_by, sum_by, Option, is_some, nat_le, nat_lt, ◌==◌, if◌then◌else◌}
use Rattle.std.specs.List.{list_any, list_all, ends_with}
use Rattle.std.specs.Option.{option_map_or}
use Rattle.std.specs.Str.{bytes_eq}
use Rattle.std.specs.Int.{is_in_range}
use Rattle.label_sets.specs.declared.kind.Kind.{Kind}
use Rattle.label_sets.specs.Lists.{some_passes}
use Rattle.label_sets.specs.declared.kind.Kind.TheVariants.{Counter, Histogram, GaugeHistogram, StateSet, Info, Summary}
use Rattle.label_sets.specs.declared.label.Label.{Label}
use Rattle.label_sets.specs.declared.label_set.LabelSet.{LabelSet}
use Rattle.label_sets.specs.Labels.{label_sets_eq, label_value, has_name}
use Rattle.exact_decimal.specs.declared.number.Number.{Number}
use Rattle.exact_decimal.specs.declared.number.Number.TheVariants.{Up, NotANumber}
use Rattle.exact_decimal.specs.Numbers.{number, number_of}
use Rattle.exact_decimal.specs.Order.{less, same, whole, is_finite, is_not_a_number}
use Rattle.page_model.specs.declared.format.Format.{Format}
use Rattle.page_model.specs.declared.format.Format.TheVariants.{Text, OpenMetrics}
use Rattle.page_model.specs.declared.item.Item.{Item}
use Rattle.page_model.specs.declared.item.Sample.{Sample}
use Rattle.page_model.specs.declared.item.Exemplar.{Exemplar}
use Rattle.page_model.specs.Written.{Setting}
use Rattle.page_model.specs.Suffixes.{is_sample_name, suffix_of}
use Rattle.page_model.specs.Items.{is_eof, is_sample, sample_of_line, unit_of_line, are_one_sort, is_descriptor}
use Rattle.page_model.specs.Owners.{Owned, is_of, kind_of, samples_of, kept_labels, group_of}

-- ---- words of the rules

-- the format is OpenMetrics
abbrev pub is_open_metrics : Format → Bool
is_open_metrics Text = false
is_open_metrics OpenMetrics = true

-- a kind with buckets
abbrev pub is_histogram : Kind → Bool
is_histogram Histogram = true
is_histogram GaugeHistogram = true
is_histogram _ = false

-- a kind with quantiles
abbrev pub is_summary : Kind → Bool
is_summary Summary = true
is_summary _ = false

-- a kind that allows no unit
abbrev pub is_info_or_state_set : Kind → Bool
is_info_or_state_set Info = true
is_info_or_state_set StateSet = true
is_info_or_state_set _ = false

-- the sample's name is the family's and this suffix
abbrev pub has_suffix : List ℕ → List ℕ → Sample → Bool
has_suffix family suffix s = bytes_eq (suffix_of family s.name) suffix

-- the sample is a bucket of the family
abbrev pub is_bucket : List ℕ → Sample → Bool
is_bucket family s = has_suffix family (codes "_bucket") s

-- the sample counts the observations of a histogram
abbrev pub is_count : List ℕ → Sample → Bool
is_count family s = has_suffix family (codes "_count") s || has_suffix family (codes "_gcount") s

-- the group of a sample of a family of this kind
abbrev pub sample_group : Setting → Kind → List ℕ → Sample → LabelSet
sample_group st kind family s = group_of kind family (kept_labels st.treatment s.labels)

-- the samples have one group
abbrev pub in_one_group : Setting → Kind → List ℕ → Sample → Sample → Bool
in_one_group st kind family s t = label_sets_eq (sample_group st kind family s) (sample_group st kind family t)

-- the bucket's upper bound; without a label it is not a number
abbrev pub threshold : Sample → Number
threshold s = option_map_or number (label_value (codes "le") s.labels) NotANumber

-- the quantile's place; without a label it is not a number
abbrev pub quantile_at : Sample → Number
quantile_at s = option_map_or number (label_value (codes "quantile") s.labels) NotANumber

-- plus infinity
abbrev pub is_up : Number → Bool
is_up Up = true
is_up _ = false

-- the characters of a text, of which each has one byte that continues no other
abbrev pub characters : List ℕ → ℕ
characters bytes = count_by (λ c. not (is_in_range 128 191 c)) bytes

-- ---- a line after the end

-- AfterEof: a line stands behind `# EOF` (OpenMetrics 1.0, "Overall Structure")
unfoldable pub is_after_eof : Setting → List Item → Bool
is_after_eof st earlier = is_open_metrics st.format && list_any is_eof earlier

-- NoEof: the page ends without `# EOF` (OpenMetrics 1.0, "Overall Structure")
unfoldable pub is_without_eof : Setting → List Item → Bool
is_without_eof st earlier = is_open_metrics st.format && not (list_any is_eof earlier)

-- ---- descriptors

-- Descriptor: its family has an earlier descriptor of the same sort, or an earlier sample (text format, "Comments, help text, and type information"; OpenMetrics 1.0, "MetricFamily metadata")
unfoldable pub is_late_descriptor : List Owned → Owned → Bool
is_late_descriptor above line = is_descriptor line.item && list_any (λ o. is_of line.family o && (are_one_sort line.item o.item || is_sample o.item)) above

-- Split: its owner has an earlier line, and the nearest line above has another owner (text format, "Grouping and sorting"; OpenMetrics 1.0, "Overall Structure")
unfoldable pub is_split : List Owned → Owned → Bool
is_split [] line = false
is_split (nearest ∷ above) line = not (is_of line.family nearest) && list_any (is_of line.family) above

-- a unit that isn't empty
abbrev pub is_unit : List ℕ → Bool
is_unit unit = not (bytes_eq unit [])

-- the unit isn't empty, and with an underscore no suffix of the family's name
abbrev pub is_foreign_unit : List ℕ → List ℕ → Bool
is_foreign_unit family unit = is_unit unit && not (ends_with ◌==◌ family (95 ∷ unit))

-- the line gives the family a unit that isn't empty
abbrev pub gives_unit : List ℕ → Owned → Bool
gives_unit family o = is_of family o && some_passes is_unit (unit_of_line o.item)

-- the family has a unit, and its kind, an info or a state set, allows none
unfoldable pub has_forbidden_unit : List Owned → List ℕ → Bool
has_forbidden_unit lines family = is_info_or_state_set (kind_of lines family) && list_any (gives_unit family) lines

-- Unit: a unit that the name lacks, or that the kind forbids, at the later of the TYPE and the UNIT line (OpenMetrics 1.0, "Unit", "Info", "StateSet")
unfoldable pub is_bad_unit : List Owned → Owned → Bool
is_bad_unit above line = some_passes (is_foreign_unit line.family) (unit_of_line line.item)
    || (is_descriptor line.item && has_forbidden_unit (line ∷ above) line.family && not (has_forbidden_unit above line.family))

-- ---- samples

-- a counter's total and a bucket may have an exemplar
abbrev pub may_have_exemplar : Kind → List ℕ → Sample → Bool
may_have_exemplar Counter family s = has_suffix family (codes "_total") s
may_have_exemplar Histogram family s = is_bucket family s
may_have_exemplar GaugeHistogram family s = is_bucket family s
may_have_exemplar _ family s = false

-- the characters of an exemplar's names and values
unfoldable pub exemplar_characters : Exemplar → ℕ
exemplar_characters e = sum_by (λ (l : Label). characters l.name + characters l.value) e.labels

-- Exemplar: the sample has an exemplar that it may not have, or one of more than 128 characters (OpenMetrics 1.0, "Exemplars")
unfoldable pub is_bad_exemplar : Kind → List ℕ → Sample → Bool
is_bad_exemplar kind family s = some_passes (λ e. not (may_have_exemplar kind family s) || nat_lt 128 (exemplar_characters e)) s.exemplar

-- Interleaved: its group has an earlier sample, and the nearest earlier sample of the family has another group (OpenMetrics 1.0, "Metric")
unfoldable pub is_interleaved : Setting → Kind → List ℕ → List Sample → Sample → Bool
is_interleaved st kind family [] s = false
is_interleaved st kind family (nearest ∷ samples) s = is_open_metrics st.format && not (in_one_group st kind family nearest s) && list_any (λ t. in_one_group st kind family t s) samples

-- Suffix: its name isn't the family's with an allowed suffix (OpenMetrics 1.0, "Suffixes"; text format, "Histograms and summaries")
unfoldable pub has_wrong_suffix : Setting → Kind → List ℕ → Sample → Bool
has_wrong_suffix st kind family s = not (is_sample_name st.format kind family s.name)

-- the samples have one name and one label set
abbrev pub is_same_series : Setting → Sample → Sample → Bool
is_same_series st s t = bytes_eq t.name s.name && label_sets_eq (kept_labels st.treatment t.labels) (kept_labels st.treatment s.labels)

-- Duplicate: an earlier sample has the same name and label set (text format, "Grouping and sorting"; OpenMetrics 1.0, "MetricPoint")
unfoldable pub is_duplicate : Setting → List Owned → Sample → Bool
is_duplicate st above s = list_any (λ o. some_passes (is_same_series st s) (sample_of_line o.item)) above

-- a whole number from 0 to 2 ^ 64 - 1
abbrev pub is_whole : Number → Bool
is_whole n = is_some (whole n)

-- the value is one that the kind forbids
unfoldable pub has_forbidden_value : Kind → List ℕ → Sample → Bool
has_forbidden_value Counter family s = has_suffix family (codes "_total") s && (is_not_a_number s.value || less s.value (number_of 0))
has_forbidden_value Info family s = not (same s.value (number_of 1))
has_forbidden_value StateSet family s = not (same s.value (number_of 0) || same s.value (number_of 1)) || not (has_name s.labels family)
has_forbidden_value Histogram family s = (is_bucket family s || is_count family s) && not (is_whole s.value)
has_forbidden_value GaugeHistogram family s = (is_bucket family s || is_count family s) && not (is_whole s.value)
has_forbidden_value Summary family s = is_count family s && not (is_whole s.value)
has_forbidden_value _ family s = false

-- Value: what each kind forbids, and a created time that isn't finite (OpenMetrics 1.0, "Counter", "Info", "StateSet", "Histogram", "GaugeHistogram", "Summary")
unfoldable pub has_bad_value : Format → Kind → List ℕ → Sample → Bool
has_bad_value f kind family s = has_forbidden_value kind family s || (is_open_metrics f && has_suffix family (codes "_created") s && not (is_finite s.value))

-- a number that can bound a bucket: a finite one or plus infinity
abbrev pub is_bound : Number → Bool
is_bound n = is_finite n || is_up n

-- Threshold: a bucket without a bound or a quantile without a place, or another sample of their families with one (OpenMetrics 1.0, "Histogram", "Summary")
unfoldable pub has_bad_threshold : Kind → List ℕ → Sample → Bool
has_bad_threshold Histogram family s = if is_bucket family s then not (is_bound (threshold s)) else has_name s.labels (codes "le")
has_bad_threshold GaugeHistogram family s = if is_bucket family s then not (is_bound (threshold s)) else has_name s.labels (codes "le")
has_bad_threshold Summary family s = if has_suffix family [] s then not (is_finite (quantile_at s)) else has_name s.labels (codes "quantile")
has_bad_threshold _ family s = false

-- the buckets of a sample's group, in the order of the list
unfoldable pub buckets_of_group : Setting → Kind → List ℕ → List Sample → Sample → List Sample
buckets_of_group st kind family samples s = filter (λ t. is_bucket family t && in_one_group st kind family t s) samples

-- the second bucket has a greater bound and no smaller count
abbrev pub follows_bucket : Sample → Sample → Bool
follows_bucket earlier s = less (threshold earlier) (threshold s) && not (less s.value earlier.value)

-- the nearest earlier bucket, where there is one, is no lower one
abbrev pub breaks_bucket_order : List Sample → Sample → Bool
breaks_bucket_order [] s = false
breaks_bucket_order (nearest ∷ buckets) s = not (follows_bucket nearest s)

-- Order: a bucket isn't above the nearest earlier bucket of its group, or a quantile of its group comes twice (OpenMetrics 1.0, "Histogram"; text format, "Histograms and summaries")
unfoldable pub is_out_of_order : Setting → Kind → List ℕ → List Sample → Sample → Bool
is_out_of_order st Histogram family samples s = is_bucket family s && breaks_bucket_order (buckets_of_group st Histogram family samples s) s
is_out_of_order st GaugeHistogram family samples s = is_bucket family s && breaks_bucket_order (buckets_of_group st GaugeHistogram family samples s) s
is_out_of_order st Summary family samples s = has_suffix family [] s && list_any (λ t. has_suffix family [] t && in_one_group st Summary family t s && same (quantile_at t) (quantile_at s)) samples
is_out_of_order st _ family samples s = false

-- TooMany: as many samples as the limit stand above it (the bridge's own)
unfoldable pub is_past_limit : Setting → List Item → Bool
is_past_limit st earlier = nat_le st.limit (count_by is_sample earlier)

-- ---- a family that is left

-- the bucket without an upper bound in the group of a sample
unfoldable pub infinite_bucket : Setting → Kind → List ℕ → List Sample → Sample → Option Sample
infinite_bucket st kind family samples s = find (λ t. is_up (threshold t)) (buckets_of_group st kind family samples s)

-- the sample's group has the bucket, and the sample, where it is a count, has that bucket's
unfoldable pub is_complete_at : Setting → Kind → List ℕ → List Sample → Sample → Bool
is_complete_at st kind family samples s = some_passes (λ (b : Sample). not (is_count family s) || same s.value b.value) (infinite_bucket st kind family samples s)

-- a histogram in which a group has no bucket `+Inf` or another count than that bucket's (OpenMetrics 1.0, "Histogram", "GaugeHistogram")
unfoldable pub is_incomplete : Setting → List Owned → List ℕ → Bool
is_incomplete st above family =
    let kind = kind_of above family in
    let samples = samples_of above family in
    is_histogram kind && not (list_all (is_complete_at st kind family samples) samples)

-- Incomplete, at a line of this owner or, without one, at `# EOF` or the end: it leaves such a histogram
unfoldable pub leaves_incomplete : Setting → List Owned → Option (List ℕ) → Bool
leaves_incomplete st [] owner = false
leaves_incomplete st (nearest ∷ above) owner = not (some_passes (λ family. is_of family nearest) owner) && is_incomplete st (nearest ∷ above) nearest.family
