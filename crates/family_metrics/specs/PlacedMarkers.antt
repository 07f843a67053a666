-- What is made of a page, the places of its readings and the groups of its markers: metrics with their markers, and groups that know which metrics the page has.
-- The bridge's own.
use Rattle.std.specs.Prelude.{◌≡◌, List, [], ◌∷◌, ◌++◌, map, filter_map, Option, option_map}
use Rattle.std.specs.List.{flat_map}
use Rattle.label_sets.specs.declared.kind.Kind.{Kind}
use Rattle.page_model.specs.declared.page.Reading.{Reading}
use Rattle.page_model.specs.declared.page.Family.{Family}
use Rattle.page_model.specs.declared.page.Page.{Page}
use Rattle.otlp_tree.specs.declared.tree.Metric.{Metric}
use Rattle.start_times.specs.declared.row.Placed.{Placed}
use Rattle.family_metrics.specs.declared.markers.Marker.{Marker}
use Rattle.family_metrics.specs.Markers.{with_markers}
use Rattle.family_metrics.specs.MarkerGroups.{GroupedMarkers, marker_groups}
use Rattle.family_metrics.specs.Metrics.{family_metric, family_metric_with, kind_metric, event_metrics}

-- the readings of families, in order
abbrev pub family_readings : List Family → List Reading
family_readings fs = flat_map (λ (f : Family). f.readings) fs

-- a page of these families
abbrev pub families_page : List Family → Page
families_page fs = record { families = fs; samples = 0 }

-- ---- one family

-- the metric of a family with the markers of its series, where it has one, and the groups that then know that the page has it, beside the metrics before
pub record IsPlacedMetric (place : Reading → Option Placed) (f : Family) (ms : List Marker) (before : List (Kind × Metric)) (metric : Option Metric) (after : List GroupedMarkers) : Type 0 where
  pub metric_is : metric ≡ option_map (λ (m : Metric). with_markers ms f.kind m) (family_metric place f)
  pub groups_are : after ≡ marker_groups (before ++ filter_map (kind_metric place) (f ∷ [])) ms

-- where these are the places of its readings, this is the metric of a family with these markers behind its points
abbrev pub IsFamilyMetric : Family → List (Option Placed) → List Marker → Option Metric → Type 0
IsFamilyMetric f places ms metric = (place : Reading → Option Placed) → places ≡ map place f.readings → metric ≡ family_metric_with ms place f

-- with these places of its readings and these groups a family comes to this metric and the groups behind it
abbrev pub PlacesMetric : Family → List (Option Placed) → List GroupedMarkers → Option Metric → List GroupedMarkers → Type 0
PlacesMetric f places groups metric after = (place : Reading → Option Placed) (ms : List Marker) (before : List (Kind × Metric))
    → places ≡ map place f.readings → groups ≡ marker_groups before ms → IsPlacedMetric place f ms before metric after

-- ---- all families

-- the metrics of families, each with the markers of its series, and the groups that then know that the page has them
pub record ArePlacedMetrics (place : Reading → Option Placed) (fs : List Family) (ms : List Marker) (metrics : List Metric) (after : List GroupedMarkers) : Type 0 where
  pub metrics_are : metrics ≡ map (λ (m : Kind × Metric). with_markers ms m.0 m.1) (filter_map (kind_metric place) fs)
  pub groups_are : after ≡ marker_groups (filter_map (kind_metric place) fs) ms

-- with these places of their readings and these groups families come to these metrics and the groups behind them
abbrev pub PlacesMetrics : List Family → List (Option Placed) → List GroupedMarkers → List Metric → List GroupedMarkers → Type 0
PlacesMetrics fs places groups metrics after = (place : Reading → Option Placed) (ms : List Marker)
    → places ≡ map place (family_readings fs) → groups ≡ marker_groups [] ms → ArePlacedMetrics place fs ms metrics after

-- where these are the places of their readings, these are the metrics of families with these markers, and of markers alone
abbrev pub AreEventMetrics : List Family → List (Option Placed) → List Marker → List Metric → Type 0
AreEventMetrics fs places ms metrics = (place : Reading → Option Placed) → places ≡ map place (family_readings fs) → metrics ≡ event_metrics place ms (families_page fs)
