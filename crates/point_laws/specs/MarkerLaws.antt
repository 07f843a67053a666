-- Laws of the points without a recorded value: one for each series that is gone, without a time of its own. Each is proved, and a call of the crate stands for it.
-- OTLP 1.x, "DataPointFlags" (no recorded value); OpenTelemetry metrics data model, "Resets and Gaps" and "Timeseries Model" (identity);
-- "Prometheus and OpenMetrics Compatibility", "Resource Attributes" and "Instrumentation Scope". That no scope stands twice in a part, and no metric twice in a scope,
-- and that the series which go with their resource are told behind it, are the bridge's own.
use Rattle.std.specs.Prelude.{◌≡◌, ◌≢◌, ℕ, true, List, [], ◌∷◌, ◌++◌, map, filter, filter_map, codes, Bool, Option, Some, None, if◌then◌else◌}
use Rattle.std.specs.List.{IsDistinct, AllByRecursion, flat_map, list_any}
use Rattle.std.specs.List.Sorted.{IsPermutation}
use Rattle.label_sets.specs.declared.kind.Kind.{Kind}
use Rattle.label_sets.specs.declared.kind.Kind.TheVariants.{Gauge}
use Rattle.label_sets.specs.declared.label_set.LabelSet.{LabelSet}
use Rattle.label_sets.specs.declared.series_key.SeriesKey.{SeriesKey}
use Rattle.label_sets.specs.Keys.{key_eq}
use Rattle.page_model.specs.declared.page.Page.{Page}
use Rattle.page_model.specs.declared.event.Event.{Event}
use Rattle.page_model.specs.Pages.{IsRightPage}
use Rattle.page_model.specs.Presence.{empty_page, keys_of, page_of_outcome}
use Rattle.otlp_tree.specs.declared.tree.Request.{Request}
use Rattle.otlp_tree.specs.declared.tree.ResourceMetrics.{ResourceMetrics}
use Rattle.otlp_tree.specs.declared.tree.Attribute.{Attribute}
use Rattle.otlp_tree.specs.declared.tree.ScopeMetrics.{ScopeMetrics}
use Rattle.otlp_tree.specs.declared.tree.Metric.{Metric}
use Rattle.otlp_tree.specs.declared.tree.NumberPoint.{NumberPoint}
use Rattle.otlp_tree.specs.declared.tree.HistogramPoint.{HistogramPoint}
use Rattle.otlp_tree.specs.declared.tree.SummaryPoint.{SummaryPoint}
use Rattle.otlp_tree.specs.declared.tree.Shape.{Shape}
use Rattle.otlp_tree.specs.declared.tree.Shape.TheVariants as shapes
use Rattle.bridge_ports.specs.Targets.{Scraped}
use Rattle.start_times.specs.Scrapes.{last_page, scrapes_of}
use Rattle.start_times.specs.Starts.{Tracking}
use Rattle.staleness.specs.Vanished.{keys_gone}
use Rattle.family_metrics.specs.Scopes.{Scope, scope_eq, scope_of, target_scope, point_labels}
use Rattle.target_pages.specs.Stretches.{resource_attributes, goes_on, moment_of, stretch_scrape, stretch_of}
use Rattle.family_metrics.specs.Markers.{is_of_metric, no_points}
use Rattle.target_core.specs.Trees.{resource_of}
use Rattle.target_core.specs.Events.{request_after}
use Rattle.family_metrics.specs.Laws.{is_same_metric}

-- ---- the points of a tree that have no value

-- such a point as it stands in a tree: the name, the unit and the sort of points of its metric, its labels and its time
pub record UnvaluedPoint : Type 0 where
  pub name : List ℕ
  pub unit : List ℕ
  pub sort : Option Shape
  pub labels : LabelSet
  pub time : ℕ

-- the same from its parts
abbrev pub unvalued_point : List ℕ → List ℕ → Option Shape → LabelSet → ℕ → UnvaluedPoint
unvalued_point name unit sort labels time = record { name = name; unit = unit; sort = sort; labels = labels; time = time }

-- the sort of points of a shape: the shape without them
abbrev pub sort_of : Shape → Shape
sort_of (shapes.Gauge points) = shapes.Gauge []
sort_of (shapes.Sum points monotonic) = shapes.Sum [] monotonic
sort_of (shapes.Histogram points) = shapes.Histogram []
sort_of (shapes.Summary points) = shapes.Summary []

-- a point, where it has no value
abbrev pub without_value : {V : Type 0} → Option V → UnvaluedPoint → Option UnvaluedPoint
without_value None point = Some point
without_value (Some v) point = None

-- a point of a gauge or a sum, where it has no value
abbrev pub unvalued_number : List ℕ → List ℕ → Option Shape → NumberPoint → Option UnvaluedPoint
unvalued_number name unit sort p = without_value p.value (unvalued_point name unit sort p.labels p.time)

-- a point of a histogram, where it has no value
abbrev pub unvalued_histogram : List ℕ → List ℕ → Option Shape → HistogramPoint → Option UnvaluedPoint
unvalued_histogram name unit sort p = without_value p.value (unvalued_point name unit sort p.labels p.time)

-- a point of a summary, where it has no value
abbrev pub unvalued_summary : List ℕ → List ℕ → Option Shape → SummaryPoint → Option UnvaluedPoint
unvalued_summary name unit sort p = without_value p.value (unvalued_point name unit sort p.labels p.time)

-- the points without a value of a metric of this name and unit
abbrev pub unvalued_in_shape : List ℕ → List ℕ → Shape → List UnvaluedPoint
unvalued_in_shape name unit (shapes.Gauge points) = filter_map (unvalued_number name unit (Some (shapes.Gauge []))) points
unvalued_in_shape name unit (shapes.Sum points monotonic) = filter_map (unvalued_number name unit (Some (shapes.Sum [] monotonic))) points
unvalued_in_shape name unit (shapes.Histogram points) = filter_map (unvalued_histogram name unit (Some (shapes.Histogram []))) points
unvalued_in_shape name unit (shapes.Summary points) = filter_map (unvalued_summary name unit (Some (shapes.Summary []))) points

-- those of a metric
abbrev pub unvalued_in_metric : Metric → List UnvaluedPoint
unvalued_in_metric m = unvalued_in_shape m.name m.unit m.shape

-- ---- the same in scopes and parts

-- such a point in the scope where it stands
pub record PointInScope : Type 0 where
  pub scope : Scope
  pub point : UnvaluedPoint

-- the same from its parts
abbrev pub point_in_scope : Scope → UnvaluedPoint → PointInScope
point_in_scope scope point = record { scope = scope; point = point }

-- the name and the version of a scope with its metrics
abbrev pub scope_named : ScopeMetrics → Scope
scope_named s = record { name = s.name; version = s.version }

-- the points without a value of all metrics of a scope, in its order
abbrev pub unvalued_in_scope : ScopeMetrics → List PointInScope
unvalued_in_scope s = map (point_in_scope (scope_named s)) (flat_map unvalued_in_metric s.metrics)

-- those of all scopes of a part
abbrev pub unvalued_in_part : ResourceMetrics → List PointInScope
unvalued_in_part part = flat_map unvalued_in_scope part.scopes

-- the point of a series that is gone, at this moment
abbrev pub gone_point : ℕ → SeriesKey → UnvaluedPoint
gone_point moment key = unvalued_point key.name key.unit (no_points key.kind) (point_labels key.labels) moment

-- the same in the scope that the series names
abbrev pub gone_in_scope : ℕ → SeriesKey → PointInScope
gone_in_scope moment key = point_in_scope (scope_of key.labels) (gone_point moment key)

-- ---- metrics that stand once

-- the metrics of a scope, each with the kind of one of these series, which it belongs to, and with points of that kind: no two have one name, kind and unit
pub record AreDistinctMetrics (series : List SeriesKey) (metrics : List Metric) : Type 0 where
  pub kinded : List (Kind × Metric)
  pub metrics_are : metrics ≡ map (λ (p : Kind × Metric). p.1) kinded
  pub sorts : AllByRecursion (λ (p : Kind × Metric). no_points p.0 ≡ Some (sort_of p.1.shape)) kinded
  pub belong : AllByRecursion (λ (p : Kind × Metric). list_any (is_of_metric p.0 p.1) series ≡ true) kinded
  pub distinct : IsDistinct is_same_metric kinded

-- the series that every event has of its target
abbrev pub target_series : List SeriesKey
target_series = record { name = codes "up"; kind = Gauge; unit = []; labels = [] } ∷ record { name = codes "scrape_samples_scraped"; kind = Gauge; unit = []; labels = [] } ∷ []

-- ---- scopes that stand once

-- the series names this scope
abbrev pub is_key_in : Scope → SeriesKey → Bool
is_key_in s key = scope_eq s (scope_of key.labels)

-- the series of a scope: those of the target in the scope that no series names, else those of these series that name it
abbrev pub series_of_scope : List SeriesKey → Scope → List SeriesKey
series_of_scope series s = if scope_eq s target_scope then target_series else filter (is_key_in s) series

-- two scopes have one name and one version
abbrev pub is_same_scope : ScopeMetrics → ScopeMetrics → Bool
is_same_scope a b = scope_eq (scope_named a) (scope_named b)

-- ---- parts

-- a part of a tree, with the points of a page, marks these series as gone: it has this resource; its points without a value are, in some order, those of these series,
-- each in its scope, and each series is told once; no scope stands twice, and no metric twice in a scope
pub record MarksInPart (resource : List Attribute) (moment : ℕ) (page : Page) (gone : List SeriesKey) (part : ResourceMetrics) : Type 0 where
  pub resource_is : part.resource ≡ resource
  pub points : IsPermutation (map (gone_in_scope moment) gone) (unvalued_in_part part)
  pub once : IsDistinct key_eq gone
  pub scopes : IsDistinct is_same_scope part.scopes
  pub metrics : AllByRecursion (λ (s : ScopeMetrics). AreDistinctMetrics (series_of_scope (keys_of page ++ gone) (scope_named s)) s.metrics) part.scopes

-- the parts behind the first one: none where no series is gone, else one, which has no page and marks them
abbrev pub MarksBehind : List Attribute → ℕ → List SeriesKey → List ResourceMetrics → Type 0
MarksBehind resource moment [] parts = parts ≡ []
MarksBehind resource moment (key ∷ keys) parts = (part : ResourceMetrics) × (parts ≡ part ∷ []) × MarksInPart resource moment empty_page (key ∷ keys) part

-- a tree marks series as gone: in its first part, which has the points of a page, those of its resource now, and behind it those that went with the resource before,
-- which is another
pub record MarksTheGone (moment : ℕ) (page : Page) (resource : List Attribute) (gone : List SeriesKey) (resource_before : List Attribute) (gone_before : List SeriesKey) (tree : Request) : Type 0 where
  pub first : ResourceMetrics
  pub further : List ResourceMetrics
  pub parts_are : tree.parts ≡ first ∷ further
  pub in_first_part : MarksInPart resource moment page gone first
  pub behind_first : MarksBehind resource_before moment gone_before further
  pub resources_differ : gone_before ≢ [] → resource ≢ resource_before

-- ---- events

-- the series that are gone while their target keeps its attributes: those that the page before had, without times of their own, and the page now lacks; none where the attributes change
abbrev pub gone_within : Tracking → List Event → Event → List SeriesKey
gone_within t earlier e = if goes_on earlier e then keys_gone t (last_page (stretch_of earlier)) (stretch_scrape earlier e).page else []

-- the series that go with the attributes of their target: where these change all that the page before had, without times of their own
abbrev pub gone_at_change : Tracking → List Event → Event → List SeriesKey
gone_at_change t earlier e = if goes_on earlier e then [] else keys_gone t (last_page (stretch_of earlier)) empty_page

-- the tree of an event behind these earlier ones marks the series that are gone, under the attributes that they had
abbrev pub EventMarksTheGone : Scraped → Tracking → List Event → Event → Type 0
EventMarksTheGone target t earlier e = MarksTheGone (moment_of earlier e) (stretch_scrape earlier e).page
    (resource_of target (resource_attributes (e ∷ earlier))) (gone_within t earlier e)
    (resource_of target (resource_attributes earlier)) (gone_at_change t earlier e) (request_after target t earlier e)

-- so it is of every event, where the page before and the page now are right; the page of a scrape that failed is empty, which is right
abbrev pub EventsMarkTheGone : Type 0
EventsMarkTheGone = (target : Scraped) (t : Tracking) (earlier : List Event) (e : Event) → IsRightPage (last_page (scrapes_of earlier)) → IsRightPage (page_of_outcome e.outcome) → EventMarksTheGone target t earlier e
