-- The metrics of small pages, by computation. The moment of each scrape is 1000, where nothing else is said.
use Rattle.std.proofs.Common.{◌≡◌, ℕ, true, false, List, [], ◌∷◌, Option, Some, None, codes, refl}
use Rattle.std.specs.Fmt.{digits}
use Rattle.label_sets.specs.declared.kind.Kind.{Kind}
use Rattle.label_sets.specs.declared.kind.Kind.TheVariants as kinds
use Rattle.label_sets.specs.declared.series_key.SeriesKey.{SeriesKey}
use Rattle.label_sets.specs.declared.label.Label.{Label}
use Rattle.exact_decimal.specs.Decimals.{DecimalValue, decimal_cmp}
use Rattle.exact_decimal.specs.declared.number.Number.{Number}
use Rattle.exact_decimal.specs.declared.number.Number.TheVariants.{Finite, Up, NotANumber}
use Rattle.exact_decimal.specs.Tokens.{unsigned, has_minus, mantissa, whole_part, fraction_part, has_exponent, exponent_part, is_digits, is_real, is_infinity, is_nan_token, is_number_token, multiplies_by, divides_by, without_leading_zeros, trailing_zeros, without_trailing_zeros, significant_digits, one_form, is_within, decimal_of, is_in_limits}
use Rattle.exact_decimal.specs.Numbers.{number_read, number_of}
use Rattle.exact_decimal.specs.Order.{less, whole, nanos}
use Rattle.page_model.specs.Lines.{lines_of}
use Rattle.page_model.specs.declared.format.Treatment.TheVariants.{Scraped}
use Rattle.page_model.specs.declared.page.Bucket.{Bucket}
use Rattle.page_model.specs.declared.page.Quantile.{Quantile}
use Rattle.page_model.specs.declared.page.Family.{Family}
use Rattle.page_model.specs.declared.page.Value.TheVariants as values
use Rattle.page_model.specs.declared.event.Cause.TheVariants as causes
use Rattle.page_model.specs.declared.event.Outcome.TheVariants as outcomes
use Rattle.page_model.specs.Written.{text_setting, open_setting}
use Rattle.page_model.specs.TextItems.{trimmed, is_integer_token}
use Rattle.page_model.specs.TextReading as text
use Rattle.page_model.specs.OpenReading as open_text
use Rattle.page_model.specs.Owners.{kind_of, sample_owner, owned_lines, samples_of}
use Rattle.page_model.specs.Readings.{value_with, buckets_of, quantiles_of, sum_of, value_of, stamp_of, exemplars_of, reading_of, readings_of, family_of, families_of, page_of}
use Rattle.page_model.specs.PageReading.{text_page}
use Rattle.histogram_layout.specs.Layouts.{may_follow, are_cumulative, finite_part, layout_of}
use Rattle.otlp_tree.specs.declared.tree.Metric.{Metric}
use Rattle.otlp_tree.specs.declared.tree.Shape.{Shape}
use Rattle.otlp_tree.specs.declared.tree.Shape.TheVariants as shapes
use Rattle.otlp_tree.specs.declared.tree.NumberPoint.{NumberPoint}
use Rattle.otlp_tree.specs.declared.tree.HistogramPoint.{HistogramPoint}
use Rattle.otlp_tree.specs.declared.tree.SummaryPoint.{SummaryPoint}
use Rattle.bridge_ports.specs.Targets.{Scraped as Target}
use Rattle.family_metrics.specs.declared.markers.Marker.{Marker}
use Rattle.start_times.specs.Starts.{has_start, has_points, up_to, cumulative_layout}
use Rattle.family_metrics.specs.Scopes.{scope_name}
use Rattle.family_metrics.specs.Shots.{id_of, shot_of}
use Rattle.target_pages.specs.Stretches.{without_info}
use Rattle.family_metrics.specs.Points.{point_at, plain_number, histogram_in, summary_in, number_point, histogram_point, summary_point}
use Rattle.family_metrics.specs.Markers.{number_marker, metric_with, marker_metric, no_points}
use Rattle.family_metrics.specs.Metrics.{shape_of, family_metric, event_metrics}
use Rattle.target_core.specs.Trees.{target_gauge, target_metrics, resource_of, request_of}
use Rattle.scope_metrics.specs.PageScopes.{series_scopes}
use Rattle.target_core.specs.Events.{first_place, event_request}

-- ---- words of the cases

-- the metrics of a text page
abbrev text_metrics : List ℕ → List Metric
text_metrics bytes = event_metrics (first_place false 1000) [] (text_page (text_setting Scraped 200000) bytes)

-- the metrics of an OpenMetrics page, scraped at a moment
abbrev open_metrics : ℕ → List ℕ → List Metric
open_metrics moment bytes = event_metrics (first_place false moment) [] (text_page (open_setting Scraped 200000) bytes)

-- a decimal of digits and of places behind the point
abbrev decimal : ℕ → ℕ → DecimalValue
decimal n places = record { negative = false; digits = n; up = 0; down = places }

-- the same as a number
abbrev number : ℕ → ℕ → Number
number n places = Finite (decimal n places)

-- a label
abbrev label : List ℕ → List ℕ → Label
label name value = record { name = name; value = value }

-- a metric without a unit
abbrev metric : List ℕ → List ℕ → Shape → Metric
metric name help shape = record { name = name; description = help; unit = []; shape = shape }

-- a point of a gauge or a sum
abbrev point : List Label → Option ℕ → Number → NumberPoint
point labels start value = record { labels = labels; start = start; time = 1000; value = Some value; exemplars = [] }

-- a point of a histogram without labels that begins with its scrape
abbrev histogram_at : List DecimalValue → List ℕ → ℕ → Option Number → HistogramPoint
histogram_at bounds counts count sum = record { labels = []; start = 1000; time = 1000; value = Some (record { layout = record { bounds = bounds; counts = counts; count = count }; sum = sum }); exemplars = [] }

-- a point of a summary without labels that begins with its scrape
abbrev summary_at : ℕ → Number → List Quantile → SummaryPoint
summary_at count sum quantiles = record { labels = []; start = 1000; time = 1000; value = Some (record { count = count; sum = sum; quantiles = quantiles }) }

-- a quantile of two places
abbrev quantile : ℕ → ℕ → Number → Quantile
quantile n places value = record { at = decimal n places; value = value }

-- a histogram family of one reading with these buckets
abbrev of_buckets : List Bucket → Family
of_buckets buckets = record {
  name = codes "h";
  kind = kinds.Histogram;
  help = [];
  unit = [];
  readings = record {
    key = record { name = codes "h"; kind = kinds.Histogram; unit = []; labels = [] };
    value = values.Buckets buckets None;
    created = None;
    stamp = None;
    exemplars = [];
  } ∷ [];
}

-- a bucket
abbrev bucket : Number → ℕ → Bucket
bucket le count = record { le = le; count = count }

-- a target
abbrev target : Target
target = record { job = codes "j"; instance = codes "h:1"; address = record { host = codes "h"; port = 1; path = codes "/metrics" }; honor = false }

-- ---- kinds

-- a gauge
gauge : text_metrics (codes "# TYPE t gauge\nt 36.6\n")
    ≡ metric (codes "t") [] (shapes.Gauge (point [] None (number 366 1) ∷ [])) ∷ []
unfolding lines_of text_page digits number_read number_of whole unsigned has_minus mantissa whole_part fraction_part has_exponent exponent_part is_digits is_real is_infinity is_nan_token is_number_token multiplies_by divides_by without_leading_zeros trailing_zeros without_trailing_zeros significant_digits one_form is_within decimal_of is_in_limits kind_of sample_owner owned_lines samples_of value_with buckets_of quantiles_of sum_of value_of stamp_of exemplars_of reading_of readings_of family_of families_of page_of trimmed is_integer_token text.label_at text.labels_at text.middle_from text.middle_at text.stamp_of text.sample_of text.kind_named text.named_at text.marked_of text.trimmed_of text.text_line_of nanos less decimal_cmp may_follow are_cumulative finite_part layout_of has_start has_points up_to first_place point_at scope_name plain_number cumulative_layout histogram_in summary_in number_point histogram_point summary_point metric_with shape_of
gauge = refl

-- a counter begins with the scrape
counter : text_metrics (codes "# HELP c C.\n# TYPE c counter\nc{a=\"1\"} 5\nc{a=\"2\"} 7\n")
    ≡ metric (codes "c") (codes "C.") (shapes.Sum (point (label (codes "a") (codes "1") ∷ []) (Some 1000) (number 5 0) ∷ point (label (codes "a") (codes "2") ∷ []) (Some 1000) (number 7 0) ∷ []) true) ∷ []
unfolding lines_of text_page digits number_read number_of whole unsigned has_minus mantissa whole_part fraction_part has_exponent exponent_part is_digits is_real is_infinity is_nan_token is_number_token multiplies_by divides_by without_leading_zeros trailing_zeros without_trailing_zeros significant_digits one_form is_within decimal_of is_in_limits kind_of sample_owner owned_lines samples_of value_with buckets_of quantiles_of sum_of value_of stamp_of exemplars_of reading_of readings_of family_of families_of page_of trimmed is_integer_token text.label_at text.labels_at text.middle_from text.middle_at text.stamp_of text.sample_of text.kind_named text.named_at text.marked_of text.trimmed_of text.text_line_of nanos less decimal_cmp may_follow are_cumulative finite_part layout_of has_start has_points up_to first_place point_at scope_name plain_number cumulative_layout histogram_in summary_in number_point histogram_point summary_point metric_with shape_of
counter = refl

-- a counter that was created at 1.5 s
created_counter : open_metrics 2000000000 (codes "# TYPE c counter\nc_total 5\nc_created 1.5\n# EOF\n")
    ≡ metric (codes "c_total") [] (shapes.Sum (record { labels = []; start = Some 1500000000; time = 2000000000; value = Some (number 5 0); exemplars = [] } ∷ []) true) ∷ []
unfolding lines_of text_page digits number_read number_of whole unsigned has_minus mantissa whole_part fraction_part has_exponent exponent_part is_digits is_real is_infinity is_nan_token is_number_token multiplies_by divides_by without_leading_zeros trailing_zeros without_trailing_zeros significant_digits one_form is_within decimal_of is_in_limits kind_of sample_owner owned_lines samples_of value_with buckets_of quantiles_of sum_of value_of stamp_of exemplars_of reading_of readings_of family_of families_of page_of open_text.label_at open_text.more_labels_at open_text.list_at open_text.optional_list_at open_text.value_at open_text.stamp_at open_text.exemplar_of open_text.sample_of open_text.kind_named open_text.named_at open_text.descriptor_of open_text.open_line_of nanos less decimal_cmp may_follow are_cumulative finite_part layout_of has_start has_points up_to first_place point_at scope_name plain_number cumulative_layout histogram_in summary_in number_point histogram_point summary_point metric_with shape_of
created_counter = refl

-- one that was created after the scrape begins with it
created_later : open_metrics 1000 (codes "# TYPE c counter\nc_total 5\nc_created 1.5\n# EOF\n")
    ≡ metric (codes "c_total") [] (shapes.Sum (point [] (Some 1000) (number 5 0) ∷ []) true) ∷ []
unfolding lines_of text_page digits number_read number_of whole unsigned has_minus mantissa whole_part fraction_part has_exponent exponent_part is_digits is_real is_infinity is_nan_token is_number_token multiplies_by divides_by without_leading_zeros trailing_zeros without_trailing_zeros significant_digits one_form is_within decimal_of is_in_limits kind_of sample_owner owned_lines samples_of value_with buckets_of quantiles_of sum_of value_of stamp_of exemplars_of reading_of readings_of family_of families_of page_of open_text.label_at open_text.more_labels_at open_text.list_at open_text.optional_list_at open_text.value_at open_text.stamp_at open_text.exemplar_of open_text.sample_of open_text.kind_named open_text.named_at open_text.descriptor_of open_text.open_line_of nanos less decimal_cmp may_follow are_cumulative finite_part layout_of has_start has_points up_to first_place point_at scope_name plain_number cumulative_layout histogram_in summary_in number_point histogram_point summary_point metric_with shape_of
created_later = refl

-- a histogram has the differences of its counts
histogram : text_metrics (codes "# TYPE h histogram\nh_bucket{le=\"0.1\"} 2\nh_bucket{le=\"1\"} 5\nh_bucket{le=\"+Inf\"} 5\nh_sum 1.5\nh_count 5\n")
    ≡ metric (codes "h") [] (shapes.Histogram (histogram_at (decimal 1 1 ∷ decimal 1 0 ∷ []) (2 ∷ 3 ∷ 0 ∷ []) 5 (Some (number 15 1)) ∷ [])) ∷ []
unfolding lines_of text_page digits number_read number_of whole unsigned has_minus mantissa whole_part fraction_part has_exponent exponent_part is_digits is_real is_infinity is_nan_token is_number_token multiplies_by divides_by without_leading_zeros trailing_zeros without_trailing_zeros significant_digits one_form is_within decimal_of is_in_limits kind_of sample_owner owned_lines samples_of value_with buckets_of quantiles_of sum_of value_of stamp_of exemplars_of reading_of readings_of family_of families_of page_of trimmed is_integer_token text.label_at text.labels_at text.middle_from text.middle_at text.stamp_of text.sample_of text.kind_named text.named_at text.marked_of text.trimmed_of text.text_line_of nanos less decimal_cmp may_follow are_cumulative finite_part layout_of has_start has_points up_to first_place point_at scope_name plain_number cumulative_layout histogram_in summary_in number_point histogram_point summary_point metric_with shape_of
histogram = refl

-- a histogram without a sum has none
histogram_without_sum : text_metrics (codes "# TYPE h histogram\nh_bucket{le=\"+Inf\"} 5\n")
    ≡ metric (codes "h") [] (shapes.Histogram (histogram_at [] (5 ∷ []) 5 None ∷ [])) ∷ []
unfolding lines_of text_page digits number_read number_of whole unsigned has_minus mantissa whole_part fraction_part has_exponent exponent_part is_digits is_real is_infinity is_nan_token is_number_token multiplies_by divides_by without_leading_zeros trailing_zeros without_trailing_zeros significant_digits one_form is_within decimal_of is_in_limits kind_of sample_owner owned_lines samples_of value_with buckets_of quantiles_of sum_of value_of stamp_of exemplars_of reading_of readings_of family_of families_of page_of trimmed is_integer_token text.label_at text.labels_at text.middle_from text.middle_at text.stamp_of text.sample_of text.kind_named text.named_at text.marked_of text.trimmed_of text.text_line_of nanos less decimal_cmp may_follow are_cumulative finite_part layout_of has_start has_points up_to first_place point_at scope_name plain_number cumulative_layout histogram_in summary_in number_point histogram_point summary_point metric_with shape_of
histogram_without_sum = refl

-- a summary without sum and count, its quantiles in the order of the page
summary : text_metrics (codes "# TYPE s summary\ns{quantile=\"0.9\"} 9\ns{quantile=\"0.5\"} 7\n")
    ≡ metric (codes "s") [] (shapes.Summary (summary_at 0 (number 0 0) (quantile 9 1 (number 9 0) ∷ quantile 5 1 (number 7 0) ∷ []) ∷ [])) ∷ []
unfolding lines_of text_page digits number_read number_of whole unsigned has_minus mantissa whole_part fraction_part has_exponent exponent_part is_digits is_real is_infinity is_nan_token is_number_token multiplies_by divides_by without_leading_zeros trailing_zeros without_trailing_zeros significant_digits one_form is_within decimal_of is_in_limits kind_of sample_owner owned_lines samples_of value_with buckets_of quantiles_of sum_of value_of stamp_of exemplars_of reading_of readings_of family_of families_of page_of trimmed is_integer_token text.label_at text.labels_at text.middle_from text.middle_at text.stamp_of text.sample_of text.kind_named text.named_at text.marked_of text.trimmed_of text.text_line_of nanos less decimal_cmp may_follow are_cumulative finite_part layout_of has_start has_points up_to first_place point_at scope_name plain_number cumulative_layout histogram_in summary_in number_point histogram_point summary_point metric_with shape_of
summary = refl

-- info and state sets are sums that may fall
info_and_state_set : open_metrics 1000 (codes "# TYPE t info\nt_info{v=\"1\"} 1\n# TYPE s stateset\ns{s=\"a\"} 1\n# EOF\n")
    ≡ metric (codes "t_info") [] (shapes.Sum (point (label (codes "v") (codes "1") ∷ []) (Some 1000) (number 1 0) ∷ []) false)
    ∷ metric (codes "s") [] (shapes.Sum (point (label (codes "s") (codes "a") ∷ []) (Some 1000) (number 1 0) ∷ []) false) ∷ []
unfolding lines_of text_page digits number_read number_of whole unsigned has_minus mantissa whole_part fraction_part has_exponent exponent_part is_digits is_real is_infinity is_nan_token is_number_token multiplies_by divides_by without_leading_zeros trailing_zeros without_trailing_zeros significant_digits one_form is_within decimal_of is_in_limits kind_of sample_owner owned_lines samples_of value_with buckets_of quantiles_of sum_of value_of stamp_of exemplars_of reading_of readings_of family_of families_of page_of open_text.label_at open_text.more_labels_at open_text.list_at open_text.optional_list_at open_text.value_at open_text.stamp_at open_text.exemplar_of open_text.sample_of open_text.kind_named open_text.named_at open_text.descriptor_of open_text.open_line_of nanos less decimal_cmp may_follow are_cumulative finite_part layout_of has_start has_points up_to first_place point_at scope_name plain_number cumulative_layout histogram_in summary_in number_point histogram_point summary_point metric_with shape_of
info_and_state_set = refl

-- an exemplar of a counter: a trace of digits in either case, another label and a time
counter_exemplar : open_metrics 1000 (codes "# TYPE c counter\nc_total 5 # {trace_id=\"0123456789abcdef0123456789ABCDEF\",q=\"z\"} 0.5 1.5\n# EOF\n")
    ≡ metric (codes "c_total") [] (shapes.Sum (record {
      labels = [];
      start = Some 1000;
      time = 1000;
      value = Some (number 5 0);
      exemplars = record { attributes = label (codes "q") (codes "z") ∷ []; time = 1500000000; value = number 5 1; trace = Some 0x0123456789abcdef0123456789abcdef; span = None } ∷ [];
    } ∷ []) true) ∷ []
unfolding lines_of text_page digits number_read number_of whole unsigned has_minus mantissa whole_part fraction_part has_exponent exponent_part is_digits is_real is_infinity is_nan_token is_number_token multiplies_by divides_by without_leading_zeros trailing_zeros without_trailing_zeros significant_digits one_form is_within decimal_of is_in_limits kind_of sample_owner owned_lines samples_of value_with buckets_of quantiles_of sum_of value_of stamp_of exemplars_of reading_of readings_of family_of families_of page_of open_text.label_at open_text.more_labels_at open_text.list_at open_text.optional_list_at open_text.value_at open_text.stamp_at open_text.exemplar_of open_text.sample_of open_text.kind_named open_text.named_at open_text.descriptor_of open_text.open_line_of nanos less decimal_cmp may_follow are_cumulative finite_part layout_of has_start has_points up_to first_place point_at scope_name id_of shot_of plain_number cumulative_layout histogram_in summary_in number_point histogram_point summary_point metric_with shape_of
counter_exemplar = refl

-- one of a bucket, without a time, whose label is no span
bucket_exemplar : open_metrics 1000 (codes "# TYPE h histogram\nh_bucket{le=\"+Inf\"} 1 # {span_id=\"7\"} 2\n# EOF\n")
    ≡ metric (codes "h") [] (shapes.Histogram (record {
      labels = [];
      start = 1000;
      time = 1000;
      value = Some (record { layout = record { bounds = []; counts = 1 ∷ []; count = 1 }; sum = None });
      exemplars = record { attributes = label (codes "span_id") (codes "7") ∷ []; time = 1000; value = number 2 0; trace = None; span = None } ∷ [];
    } ∷ [])) ∷ []
unfolding lines_of text_page digits number_read number_of whole unsigned has_minus mantissa whole_part fraction_part has_exponent exponent_part is_digits is_real is_infinity is_nan_token is_number_token multiplies_by divides_by without_leading_zeros trailing_zeros without_trailing_zeros significant_digits one_form is_within decimal_of is_in_limits kind_of sample_owner owned_lines samples_of value_with buckets_of quantiles_of sum_of value_of stamp_of exemplars_of reading_of readings_of family_of families_of page_of open_text.label_at open_text.more_labels_at open_text.list_at open_text.optional_list_at open_text.value_at open_text.stamp_at open_text.exemplar_of open_text.sample_of open_text.kind_named open_text.named_at open_text.descriptor_of open_text.open_line_of nanos less decimal_cmp may_follow are_cumulative finite_part layout_of has_start has_points up_to first_place point_at scope_name id_of shot_of plain_number cumulative_layout histogram_in summary_in number_point histogram_point summary_point metric_with shape_of
bucket_exemplar = refl

-- gauge histograms and families without readings become nothing
gauge_histogram : open_metrics 1000 (codes "# TYPE g gaugehistogram\ng_bucket{le=\"+Inf\"} 3\ng_gcount 3\ng_gsum 4\n# TYPE x gauge\n# EOF\n")
    ≡ []
unfolding lines_of text_page digits number_read number_of whole unsigned has_minus mantissa whole_part fraction_part has_exponent exponent_part is_digits is_real is_infinity is_nan_token is_number_token multiplies_by divides_by without_leading_zeros trailing_zeros without_trailing_zeros significant_digits one_form is_within decimal_of is_in_limits kind_of sample_owner owned_lines samples_of value_with buckets_of quantiles_of sum_of value_of stamp_of exemplars_of reading_of readings_of family_of families_of page_of open_text.label_at open_text.more_labels_at open_text.list_at open_text.optional_list_at open_text.value_at open_text.stamp_at open_text.exemplar_of open_text.sample_of open_text.kind_named open_text.named_at open_text.descriptor_of open_text.open_line_of nanos less decimal_cmp may_follow are_cumulative finite_part layout_of has_start has_points up_to first_place point_at scope_name plain_number cumulative_layout histogram_in summary_in number_point histogram_point summary_point metric_with shape_of
gauge_histogram = refl

-- buckets that are not cumulative have no point: counts that fall
falling_counts : family_metric (first_place false 1000) (of_buckets (bucket (number 1 0) 5 ∷ bucket Up 4 ∷ []))
    ≡ None
unfolding nanos less decimal_cmp may_follow are_cumulative finite_part layout_of has_start has_points up_to first_place point_at scope_name plain_number cumulative_layout histogram_in summary_in number_point histogram_point summary_point metric_with shape_of
falling_counts = refl

-- no last bucket
no_last_bucket : family_metric (first_place false 1000) (of_buckets (bucket (number 1 0) 5 ∷ []))
    ≡ None
unfolding nanos less decimal_cmp may_follow are_cumulative finite_part layout_of has_start has_points up_to first_place point_at scope_name plain_number cumulative_layout histogram_in summary_in number_point histogram_point summary_point metric_with shape_of
no_last_bucket = refl

-- bounds that are equal
equal_bounds : family_metric (first_place false 1000) (of_buckets (bucket (number 5 1) 1 ∷ bucket (number 5 1) 1 ∷ bucket Up 1 ∷ []))
    ≡ None
unfolding nanos less decimal_cmp may_follow are_cumulative finite_part layout_of has_start has_points up_to first_place point_at scope_name plain_number cumulative_layout histogram_in summary_in number_point histogram_point summary_point metric_with shape_of
equal_bounds = refl

-- ---- whole pages

-- a page as the usual clients write it
realistic_page : text_metrics (codes "# HELP rpc_durations_seconds RPC latency distributions.\n# TYPE rpc_durations_seconds summary\nrpc_durations_seconds{quantile=\"0.5\"} NaN\nrpc_durations_seconds{quantile=\"0.9\"} NaN\nrpc_durations_seconds{quantile=\"0.99\"} NaN\nrpc_durations_seconds_sum 0\nrpc_durations_seconds_count 0\n# HELP process_cpu_seconds_total Total user and system CPU time spent in seconds.\n# TYPE process_cpu_seconds_total counter\nprocess_cpu_seconds_total 0.24\n# HELP process_start_time_seconds Start time of the process since unix epoch in seconds.\n# TYPE process_start_time_seconds gauge\nprocess_start_time_seconds 1.7e+09\n# HELP jobs_total Jobs.\n# TYPE jobs_total counter\njobs_total{queue=\"a b\"} 3.0\n# HELP jobs_created Jobs.\n# TYPE jobs_created gauge\njobs_created{queue=\"a b\"} 1.7000000001e+09\n")
    ≡ metric (codes "rpc_durations_seconds") (codes "RPC latency distributions.") (shapes.Summary (summary_at 0 (number 0 0) (quantile 5 1 NotANumber ∷ quantile 9 1 NotANumber ∷ quantile 99 2 NotANumber ∷ []) ∷ []))
    ∷ metric (codes "process_cpu_seconds_total") (codes "Total user and system CPU time spent in seconds.") (shapes.Sum (point [] (Some 1000) (number 24 2) ∷ []) true)
    ∷ metric (codes "process_start_time_seconds") (codes "Start time of the process since unix epoch in seconds.") (shapes.Gauge (point [] None (Finite (record { negative = false; digits = 17; up = 8; down = 0 })) ∷ []))
    ∷ metric (codes "jobs_total") (codes "Jobs.") (shapes.Sum (point (label (codes "queue") (codes "a b") ∷ []) (Some 1000) (number 3 0) ∷ []) true)
    ∷ metric (codes "jobs_created") (codes "Jobs.") (shapes.Gauge (point (label (codes "queue") (codes "a b") ∷ []) None (number 17000000001 1) ∷ [])) ∷ []
unfolding lines_of text_page digits number_read number_of whole unsigned has_minus mantissa whole_part fraction_part has_exponent exponent_part is_digits is_real is_infinity is_nan_token is_number_token multiplies_by divides_by without_leading_zeros trailing_zeros without_trailing_zeros significant_digits one_form is_within decimal_of is_in_limits kind_of sample_owner owned_lines samples_of value_with buckets_of quantiles_of sum_of value_of stamp_of exemplars_of reading_of readings_of family_of families_of page_of trimmed is_integer_token text.label_at text.labels_at text.middle_from text.middle_at text.stamp_of text.sample_of text.kind_named text.named_at text.marked_of text.trimmed_of text.text_line_of nanos less decimal_cmp may_follow are_cumulative finite_part layout_of has_start has_points up_to first_place point_at scope_name plain_number cumulative_layout histogram_in summary_in number_point histogram_point summary_point metric_with shape_of
realistic_page = refl

-- a scrape that failed has the target's own scope alone
failed_scrape : event_request target 1000 (outcomes.Failed causes.Connect)
    ≡ record {
      parts = record {
        resource = resource_of target [];
        scopes = record { name = codes "bridge.target"; version = []; metrics = target_gauge (codes "up") 1000 0 ∷ target_gauge (codes "scrape_samples_scraped") 1000 0 ∷ [] } ∷ [];
      } ∷ [];
    }
unfolding without_info series_scopes target_metrics request_of event_request
failed_scrape = refl

-- ---- series that are gone

-- a series of a kind
abbrev series : List ℕ → Kind → SeriesKey
series name kind = record { name = name; kind = kind; unit = []; labels = [] }

-- a series that is missed at 1000
abbrev missed : List ℕ → Kind → Option ℕ → Marker
missed name kind start = record { key = series name kind; start = start; time = 1000 }

-- its point
abbrev gone_point : Option ℕ → NumberPoint
gone_point start = record { labels = []; start = start; time = 1000; value = None; exemplars = [] }

-- a marker stands behind the points of its metric; what is left follows in the order of the first markers, by name, kind and unit
behind_points : event_metrics (first_place false 1000) (missed (codes "b") kinds.Gauge None ∷ missed (codes "c") kinds.Counter (Some 10) ∷ missed (codes "c") kinds.Gauge None ∷ missed (codes "b") kinds.Gauge None ∷ [])
    (text_page (text_setting Scraped 200000) (codes "# TYPE c counter\nc 5\n"))
    ≡ metric (codes "c") [] (shapes.Sum (point [] (Some 1000) (number 5 0) ∷ gone_point (Some 10) ∷ []) true)
    ∷ metric (codes "b") [] (shapes.Gauge (gone_point None ∷ gone_point None ∷ []))
    ∷ metric (codes "c") [] (shapes.Gauge (gone_point None ∷ [])) ∷ []
unfolding number_marker marker_metric no_points lines_of text_page digits number_read number_of whole unsigned has_minus mantissa whole_part fraction_part has_exponent exponent_part is_digits is_real is_infinity is_nan_token is_number_token multiplies_by divides_by without_leading_zeros trailing_zeros without_trailing_zeros significant_digits one_form is_within decimal_of is_in_limits kind_of sample_owner owned_lines samples_of value_with buckets_of quantiles_of sum_of value_of stamp_of exemplars_of reading_of readings_of family_of families_of page_of trimmed is_integer_token text.label_at text.labels_at text.middle_from text.middle_at text.stamp_of text.sample_of text.kind_named text.named_at text.marked_of text.trimmed_of text.text_line_of nanos less decimal_cmp may_follow are_cumulative finite_part layout_of has_start has_points up_to first_place point_at scope_name plain_number cumulative_layout histogram_in summary_in number_point histogram_point summary_point metric_with shape_of
behind_points = refl

-- a gauge histogram that is gone has no metric
gone_gauge_histogram : event_metrics (first_place false 1000) (missed (codes "h") kinds.GaugeHistogram None ∷ []) (record { families = []; samples = 0 }) ≡ []
unfolding marker_metric no_points
gone_gauge_histogram = refl
