-- The metrics of a page, with the times and the starts of its readings, and the markers of its series.
-- OpenTelemetry metrics data model, "Sums", "Gauge", "Histogram" and "Summary".
use Rattle.std.specs.Prelude.{ℕ, true, false, List, [], ◌∷◌, ◌++◌, map, filter_map, Option, Some, None, option_map}
use Rattle.label_sets.specs.declared.kind.Kind.{Kind}
use Rattle.label_sets.specs.declared.kind.Kind.TheVariants.{Counter, Histogram, GaugeHistogram, StateSet, Info, Summary}
use Rattle.page_model.specs.declared.page.Reading.{Reading}
use Rattle.page_model.specs.declared.page.Family.{Family}
use Rattle.page_model.specs.declared.page.Page.{Page}
use Rattle.otlp_tree.specs.declared.tree.Metric.{Metric}
use Rattle.otlp_tree.specs.declared.tree.Shape.{Shape}
use Rattle.otlp_tree.specs.declared.tree.Shape.TheVariants as shapes
use Rattle.start_times.specs.declared.row.Placed.{Placed}
use Rattle.family_metrics.specs.declared.markers.Marker.{Marker}
use Rattle.family_metrics.specs.Points.{Point, point_of, number_point, histogram_point, summary_point}
use Rattle.family_metrics.specs.Markers.{metric_with, with_markers, markers_left, marker_metrics}

-- what a function gives of values, where it gives something
abbrev pub some_of : {X Y : Type 0} → (X → Option Y) → List X → Option (List Y)
some_of {X} {Y} h xs = some_list (filter_map h xs)
  where
    some_list : List Y → Option (List Y)
    some_list [] = None
    some_list (y ∷ ys) = Some (y ∷ ys)

-- what a function gives of values, where it gives something, and behind that what another makes of markers
abbrev pub some_marked : {X Y : Type 0} → (X → Option Y) → (Marker → Y) → List X → List Marker → Option (List Y)
some_marked h mark xs ms = option_map (λ ys. ys ++ map mark ms) (some_of h xs)

-- points of a kind, as sum, gauge, histogram or summary, where there is one; gauge histograms have none.
-- That info and state sets are sums that may fall is the bridge's own
unfoldable pub shape_of : Kind → List Point → Option Shape
shape_of Counter points = option_map (λ ps. shapes.Sum ps true) (some_of number_point points)
shape_of Info points = option_map (λ ps. shapes.Sum ps false) (some_of number_point points)
shape_of StateSet points = option_map (λ ps. shapes.Sum ps false) (some_of number_point points)
shape_of Histogram points = option_map shapes.Histogram (some_of histogram_point points)
shape_of Summary points = option_map shapes.Summary (some_of summary_point points)
shape_of GaugeHistogram points = None
shape_of _ points = option_map shapes.Gauge (some_of number_point points)

-- the metric of readings of a kind, named by the first of them, where they have a point
abbrev pub metric_of : (Reading → Option Placed) → Kind → List ℕ → List Reading → Option Metric
metric_of place kind help [] = None
metric_of place kind help (first ∷ rest) = option_map (λ shape. record {
  name = first.key.name;
  description = help;
  unit = first.key.unit;
  shape = shape;
}) (shape_of kind (filter_map (point_of place) (first ∷ rest)))

-- the metric of a family
abbrev pub family_metric : (Reading → Option Placed) → Family → Option Metric
family_metric place f = metric_of place f.kind f.help f.readings

-- the same, and these markers behind its points
abbrev pub family_metric_with : List Marker → (Reading → Option Placed) → Family → Option Metric
family_metric_with ms place f = option_map (metric_with ms) (family_metric place f)

-- the metric of a family with its kind
abbrev pub kind_metric : (Reading → Option Placed) → Family → Option (Kind × Metric)
kind_metric place f = option_map (λ m. (f.kind, m)) (family_metric place f)

-- the metrics of a page with their kinds, in page order
abbrev pub page_metrics : (Reading → Option Placed) → Page → List (Kind × Metric)
page_metrics place page = filter_map (kind_metric place) page.families

-- the metrics of an event: those of its page, each with the markers of its series, and behind them those that have markers alone
abbrev pub event_metrics : (Reading → Option Placed) → List Marker → Page → List Metric
event_metrics place ms page =
    let metrics = page_metrics place page in
    map (λ m. with_markers ms m.0 m.1) metrics ++ marker_metrics (markers_left metrics ms)
