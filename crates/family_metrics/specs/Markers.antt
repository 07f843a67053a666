-- The points without a recorded value, one for each series that is gone, and their places among the metrics.
-- OTLP 1.x, "DataPointFlags" (no recorded value); OpenTelemetry metrics data model, "Resets and Gaps" and "Timeseries Model" (identity).
use Rattle.std.specs.Prelude.{Bool, true, false, not, ◌&&◌, List, [], ◌++◌, map, filter, filter_map, Option, Some, None, option_map, unwrap_or}
use Rattle.std.specs.List.{list_any}
use Rattle.std.specs.Str.{bytes_eq}
use Rattle.label_sets.specs.declared.kind.Kind.{Kind}
use Rattle.label_sets.specs.declared.kind.Kind.TheVariants.{Counter, Histogram, GaugeHistogram, StateSet, Info, Summary}
use Rattle.label_sets.specs.declared.series_key.SeriesKey.{SeriesKey}
use Rattle.label_sets.specs.Lists.{first_of_each}
use Rattle.label_sets.specs.Keys.{kind_eq, identity_eq}
use Rattle.otlp_tree.specs.declared.tree.Metric.{Metric}
use Rattle.otlp_tree.specs.declared.tree.Shape.{Shape}
use Rattle.otlp_tree.specs.declared.tree.Shape.TheVariants as shapes
use Rattle.otlp_tree.specs.declared.tree.NumberPoint.{NumberPoint}
use Rattle.otlp_tree.specs.declared.tree.HistogramPoint.{HistogramPoint}
use Rattle.otlp_tree.specs.declared.tree.SummaryPoint.{SummaryPoint}
use Rattle.family_metrics.specs.declared.markers.Marker.{Marker}
use Rattle.family_metrics.specs.Scopes.{point_labels}

-- ---- points without a recorded value

-- of a gauge or a sum
unfoldable pub number_marker : Marker → NumberPoint
number_marker m = record { labels = point_labels m.key.labels; start = m.start; time = m.time; value = None; exemplars = [] }

-- of a histogram
unfoldable pub histogram_marker : Marker → HistogramPoint
histogram_marker m = record { labels = point_labels m.key.labels; start = unwrap_or m.start m.time; time = m.time; value = None; exemplars = [] }

-- of a summary
unfoldable pub summary_marker : Marker → SummaryPoint
summary_marker m = record { labels = point_labels m.key.labels; start = unwrap_or m.start m.time; time = m.time; value = None }

-- points with those of markers behind them
abbrev pub shape_with : List Marker → Shape → Shape
shape_with ms (shapes.Gauge points) = shapes.Gauge (points ++ map number_marker ms)
shape_with ms (shapes.Sum points monotonic) = shapes.Sum (points ++ map number_marker ms) monotonic
shape_with ms (shapes.Histogram points) = shapes.Histogram (points ++ map histogram_marker ms)
shape_with ms (shapes.Summary points) = shapes.Summary (points ++ map summary_marker ms)

-- ---- markers of a metric that the page has

-- the series is one of this metric
abbrev pub is_of_metric : Kind → Metric → SeriesKey → Bool
is_of_metric kind metric key = bytes_eq metric.name key.name && kind_eq kind key.kind && bytes_eq metric.unit key.unit

-- the markers of the series of a metric
abbrev pub markers_of : Kind → Metric → List Marker → List Marker
markers_of kind metric ms = filter (λ (m : Marker). is_of_metric kind metric m.key) ms

-- a metric, and these markers behind its points
unfoldable pub metric_with : List Marker → Metric → Metric
metric_with ms metric = record {
  name = metric.name;
  description = metric.description;
  unit = metric.unit;
  shape = shape_with ms metric.shape;
}

-- a metric, and the markers of its series behind its points
abbrev pub with_markers : List Marker → Kind → Metric → Metric
with_markers ms kind metric = metric_with (markers_of kind metric ms) metric

-- ---- metrics that have markers alone

-- the markers of series that are of none of these metrics
abbrev pub markers_left : List (Kind × Metric) → List Marker → List Marker
markers_left metrics ms = filter (λ (m : Marker). not (list_any (λ (p : Kind × Metric). is_of_metric p.0 p.1 m.key) metrics)) ms

-- no points of a kind, where the kind has points
unfoldable pub no_points : Kind → Option Shape
no_points Counter = Some (shapes.Sum [] true)
no_points Info = Some (shapes.Sum [] false)
no_points StateSet = Some (shapes.Sum [] false)
no_points Histogram = Some (shapes.Histogram [])
no_points Summary = Some (shapes.Summary [])
no_points GaugeHistogram = None
no_points _ = Some (shapes.Gauge [])

-- the metric of the markers that are of one metric with this one, which is their first; it has no description
unfoldable pub marker_metric : List Marker → Marker → Option Metric
marker_metric ms first = option_map (λ shape. record {
  name = first.key.name;
  description = [];
  unit = first.key.unit;
  shape = shape_with (filter (λ (m : Marker). identity_eq first.key m.key) ms) shape;
}) (no_points first.key.kind)

-- the metrics of markers, in the order of their first markers
abbrev pub marker_metrics : List Marker → List Metric
marker_metrics ms = filter_map (marker_metric ms) (first_of_each (λ (a b : Marker). identity_eq a.key b.key) ms)
