-- The points of the readings of one scrape.
-- OpenTelemetry metrics data model, "Metric Points", "Histogram", "Summary"; "Prometheus and OpenMetrics Compatibility", "Prometheus Metric points to OTLP".
use Rattle.std.specs.Prelude.{◌≡◌, ⊤, Bool, true, false, ℕ, List, map, filter_map, Option, Some, None, option_map, unwrap_or, All, if◌then◌else◌}
use Rattle.std.specs.List.{zip}
use Rattle.label_sets.specs.declared.kind.Kind.{Kind}
use Rattle.exact_decimal.specs.declared.number.Number.{Number}
use Rattle.exact_decimal.specs.Numbers.{number_of}
use Rattle.page_model.specs.declared.page.Value.{Value}
use Rattle.page_model.specs.declared.page.Value.TheVariants as values
use Rattle.page_model.specs.declared.page.Reading.{Reading}
use Rattle.histogram_layout.specs.Layouts.{are_cumulative}
use Rattle.start_times.specs.declared.row.Placed.{Placed}
use Rattle.start_times.specs.declared.row.Placed.TheVariants.{At}
use Rattle.start_times.specs.Starts.{has_start, cumulative_layout}
use Rattle.otlp_tree.specs.declared.tree.NumberPoint.{NumberPoint}
use Rattle.otlp_tree.specs.declared.tree.HistogramPoint.{HistogramPoint}
use Rattle.otlp_tree.specs.declared.tree.HistogramValue.{HistogramValue}
use Rattle.otlp_tree.specs.declared.tree.SummaryPoint.{SummaryPoint}
use Rattle.otlp_tree.specs.declared.tree.SummaryValue.{SummaryValue}
use Rattle.label_sets.specs.declared.label_set.LabelSet.{LabelSet}
use Rattle.otlp_tree.specs.declared.tree.Shot.{Shot}
use Rattle.family_metrics.specs.Scopes.{scope_name, point_labels}
use Rattle.family_metrics.specs.Shots.{shot_of}

-- ---- points before they have the form of their kind

-- the labels of a series that do not name its scope, since when its value counts, where its kind has starts, when the value was
-- read, the value, and its exemplars; times in nanoseconds since the Unix epoch
pub record Point : Type 0 where
  pub labels : LabelSet
  pub start : Option ℕ
  pub time : ℕ
  pub value : Value
  pub shots : List Shot

-- the start, where the kind has starts
abbrev pub start_for : Kind → ℕ → Option ℕ
start_for kind start = if has_start kind then Some start else None

-- the point of a reading that is taken at this time, where its series began then
unfoldable pub point_at : ℕ → ℕ → Reading → Point
point_at time start r = record {
  labels = point_labels r.key.labels;
  start = start_for r.key.kind start;
  time = time;
  value = r.value;
  shots = map (shot_of time) r.exemplars;
}

-- the point of a reading at its place; none where it has no place, or is late
abbrev pub point_in : Option Placed → Reading → Option Point
point_in (Some (At time start)) r = Some (point_at time start r)
point_in _ r = None

-- the point of a reading, where the place that it has gives one
abbrev pub point_of : (Reading → Option Placed) → Reading → Option Point
point_of place r = point_in (place r) r

-- the points of readings with the places beside them
abbrev pub points_with : List Reading → List (Option Placed) → List Point
points_with readings places = filter_map (λ (p : Reading × Option Placed). point_in p.1 p.0) (zip readings places)

-- ---- values

-- the number of a value that is one
unfoldable pub plain_number : Value → Option Number
plain_number (values.Plain n) = Some n
plain_number _ = None

-- the histogram of a value that has cumulative buckets
unfoldable pub histogram_in : Value → Option HistogramValue
histogram_in (values.Buckets buckets sum) = option_map (λ layout. record { layout = layout; sum = sum }) (cumulative_layout buckets)
histogram_in _ = None

-- the buckets of a value, where it has some, are cumulative, so they have a layout
abbrev pub MayBeLaidOut : Value → Type 0
MayBeLaidOut (values.Buckets buckets sum) = are_cumulative buckets ≡ true
MayBeLaidOut _ = ⊤

-- the readings have values that may be laid out
abbrev pub MayAllBeLaidOut : List Reading → Type 0
MayAllBeLaidOut readings = All (λ (r : Reading). MayBeLaidOut r.value) readings

-- the labels name no scope, unless such labels may
abbrev pub MayBeScoped : Bool → LabelSet → Type 0
MayBeScoped scoped labels = scoped ≡ false → scope_name labels ≡ None

-- the readings are of series that name no scope, unless they may
abbrev pub MayAllBeScoped : Bool → List Reading → Type 0
MayAllBeScoped scoped readings = All (λ (r : Reading). MayBeScoped scoped r.key.labels) readings

-- the summary of a value that is one; that an absent count or sum is 0 is the bridge's own
unfoldable pub summary_in : Value → Option SummaryValue
summary_in (values.Quantiles list count sum) = Some (record { count = unwrap_or count 0; sum = unwrap_or sum (number_of 0); quantiles = list })
summary_in _ = None

-- ---- points in the form of their kind, where their value is of it

-- a point of a gauge or a sum
unfoldable pub number_point : Point → Option NumberPoint
number_point p = option_map (λ number. record { labels = p.labels; start = p.start; time = p.time; value = Some number; exemplars = p.shots }) (plain_number p.value)

-- the start of a point, or its time where it has none
abbrev pub start_or_time : Point → ℕ
start_or_time p = unwrap_or p.start p.time

-- a point of a histogram
unfoldable pub histogram_point : Point → Option HistogramPoint
histogram_point p = option_map (λ histogram. record { labels = p.labels; start = start_or_time p; time = p.time; value = Some histogram; exemplars = p.shots }) (histogram_in p.value)

-- a point of a summary
unfoldable pub summary_point : Point → Option SummaryPoint
summary_point p = option_map (λ summary. record { labels = p.labels; start = start_or_time p; time = p.time; value = Some summary }) (summary_in p.value)
