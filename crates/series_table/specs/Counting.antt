-- What is counted over the visits of a target. Sums of points stand still at the last value of their type.
-- The bridge's own.
use Rattle.std.specs.Prelude.{ℕ, ◌+◌, ◌-◌, ◌^◌, min, Bool, true, false, not, List, length, count_by, is_some, if◌then◌else◌}
use Rattle.std.specs.List.{sum_by}
use Rattle.page_model.specs.declared.event.Event.{Event}
use Rattle.page_model.specs.declared.event.Outcome.{Outcome}
use Rattle.page_model.specs.declared.event.Outcome.TheVariants as outcomes
use Rattle.otlp_tree.specs.declared.tree.Request.{Request}
use Rattle.otlp_tree.specs.declared.tree.ResourceMetrics.{ResourceMetrics}
use Rattle.otlp_tree.specs.declared.tree.ScopeMetrics.{ScopeMetrics}
use Rattle.otlp_tree.specs.declared.tree.Metric.{Metric}
use Rattle.otlp_tree.specs.declared.tree.Shape.{Shape}
use Rattle.otlp_tree.specs.declared.tree.Shape.TheVariants as shapes
use Rattle.otlp_tree.specs.declared.tree.NumberPoint.{NumberPoint}
use Rattle.otlp_tree.specs.declared.tree.HistogramPoint.{HistogramPoint}
use Rattle.otlp_tree.specs.declared.tree.SummaryPoint.{SummaryPoint}
use Rattle.target_core.specs.Events.{requests_of}
use Rattle.series_table.specs.declared.counts.Counts.{Counts}
use Rattle.series_table.specs.declared.point_counts.PointCounts.{PointCounts}
use Rattle.otlp_sender.specs.declared.posted.Posted.{Posted}
use Rattle.otlp_sender.specs.declared.posted.Posted.TheVariants as posted
use Rattle.series_table.specs.Talking.{Followed}
use Rattle.series_table.specs.Emission.{tracking_of}

-- how many points of these have a value
abbrev pub valued_points : Shape → ℕ
valued_points (shapes.Gauge ps) = count_by (λ (p : NumberPoint). is_some p.value) ps
valued_points (shapes.Sum ps monotonic) = count_by (λ (p : NumberPoint). is_some p.value) ps
valued_points (shapes.Histogram ps) = count_by (λ (p : HistogramPoint). is_some p.value) ps
valued_points (shapes.Summary ps) = count_by (λ (p : SummaryPoint). is_some p.value) ps

-- how many of these have none
abbrev pub unvalued_points : Shape → ℕ
unvalued_points (shapes.Gauge ps) = count_by (λ (p : NumberPoint). not (is_some p.value)) ps
unvalued_points (shapes.Sum ps monotonic) = count_by (λ (p : NumberPoint). not (is_some p.value)) ps
unvalued_points (shapes.Histogram ps) = count_by (λ (p : HistogramPoint). not (is_some p.value)) ps
unvalued_points (shapes.Summary ps) = count_by (λ (p : SummaryPoint). not (is_some p.value)) ps

-- how many points of a metric have a value
abbrev pub valued_in : Metric → ℕ
valued_in m = valued_points m.shape

-- how many have none
abbrev pub unvalued_in : Metric → ℕ
unvalued_in m = unvalued_points m.shape

-- a number of each metric of scopes, added up
abbrev pub over_scopes : (Metric → ℕ) → List ScopeMetrics → ℕ
over_scopes h scopes = sum_by (λ (s : ScopeMetrics). sum_by h s.metrics) scopes

-- a number of each metric of a request, in all its parts, added up
abbrev pub over_metrics : (Metric → ℕ) → Request → ℕ
over_metrics h r = sum_by (λ (part : ResourceMetrics). over_scopes h part.scopes) r.parts

-- a number, or the last value of a count where it is greater
abbrev pub as_count : ℕ → ℕ
as_count n = min n (2 ^ 64 - 1)

-- the scrape of such an outcome failed
abbrev pub is_failure : Outcome → Bool
is_failure (outcomes.Page page) = false
is_failure (outcomes.Failed cause) = true

-- the scrape of the event failed
abbrev pub has_failed : Event → Bool
has_failed e = is_failure e.outcome

-- the body was taken
abbrev pub was_accepted : Posted → Bool
was_accepted (posted.Accepted s) = true
was_accepted _ = false

-- the body was refused for good
abbrev pub was_refused : Posted → Bool
was_refused (posted.Refused s) = true
was_refused _ = false

-- the tries of the body were used up
abbrev pub was_given_up : Posted → Bool
was_given_up (posted.GivenUp v) = true
was_given_up _ = false

-- a count that rose by one where this is so
abbrev pub raised_if : Bool → ℕ → ℕ
raised_if rises n = as_count (if rises then n + 1 else n)

-- the counts of one visit more: whether its scrape failed, its points with and without a value, and what came of its body
abbrev pub with_visit : Counts → Bool → PointCounts → Posted → Counts
with_visit before failed points p = record {
  visits = as_count (before.visits + 1);
  failed = raised_if failed before.failed;
  points = as_count (before.points + points.valued);
  markers = as_count (before.markers + points.unvalued);
  accepted = raised_if (was_accepted p) before.accepted;
  refused = raised_if (was_refused p) before.refused;
  given_up = raised_if (was_given_up p) before.given_up;
}

-- the counts of events and of what came of their bodies
abbrev pub visit_counts : Followed → List Event → List Posted → Counts
visit_counts f events ps = record {
  visits = length events;
  failed = count_by has_failed events;
  points = as_count (sum_by (over_metrics valued_in) (requests_of f.target (tracking_of f) events));
  markers = as_count (sum_by (over_metrics unvalued_in) (requests_of f.target (tracking_of f) events));
  accepted = count_by was_accepted ps;
  refused = count_by was_refused ps;
  given_up = count_by was_given_up ps;
}
