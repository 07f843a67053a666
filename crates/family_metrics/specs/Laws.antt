-- Laws of the markers among the metrics. Each is proved, and a call of the crate stands for it.
-- The bridge's own.
use Rattle.std.specs.Prelude.{◌≡◌, ◌≤◌, Bool, true, ◌&&◌, List, filter, length}
use Rattle.std.specs.List.{IsDistinct, list_any}
use Rattle.std.specs.Str.{bytes_eq}
use Rattle.label_sets.specs.declared.kind.Kind.{Kind}
use Rattle.label_sets.specs.declared.series_key.SeriesKey.{SeriesKey}
use Rattle.label_sets.specs.Keys.{kind_eq, identity_eq}
use Rattle.label_sets.specs.Lists.{first_of_each}
use Rattle.otlp_tree.specs.declared.tree.Metric.{Metric}
use Rattle.family_metrics.specs.declared.markers.Marker.{Marker}
use Rattle.family_metrics.specs.Markers.{is_of_metric}

-- two metrics have one name, kind and unit
abbrev pub is_same_metric : Kind × Metric → Kind × Metric → Bool
is_same_metric p q = bytes_eq p.1.name q.1.name && kind_eq p.0 q.0 && bytes_eq p.1.unit q.1.unit

-- the metrics of a page to which a series belongs
abbrev pub metrics_with : SeriesKey → List (Kind × Metric) → List (Kind × Metric)
metrics_with key metrics = filter (λ (p : Kind × Metric). is_of_metric p.0 p.1 key) metrics

-- where no two metrics have one name, kind and unit, a marker stands in at most one of them
abbrev pub OneMetricOfThePage : Type 0
OneMetricOfThePage = (metrics : List (Kind × Metric)) (key : SeriesKey) → IsDistinct is_same_metric metrics → length (metrics_with key metrics) ≤ 1

-- among the metrics that have markers alone, just one has the name, kind and unit of a marker that is left
abbrev pub OneMetricAlone : Type 0
OneMetricAlone = (ms : List Marker) (m : Marker) → list_any (λ (x : Marker). identity_eq x.key m.key) ms ≡ true
    → length (filter (λ (first : Marker). identity_eq first.key m.key) (first_of_each (λ (a b : Marker). identity_eq a.key b.key) ms)) ≡ 1
