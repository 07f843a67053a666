-- The scopes of a page and of markers, each with the metrics of its own series.
-- "Prometheus and OpenMetrics Compatibility", "Instrumentation Scope". The order of scopes is the bridge's own.
use Rattle.std.specs.Prelude.{◌≡◌, Bool, List, [], ◌∷◌, ◌++◌, map, filter, Option, is_some}
use Rattle.std.specs.List.{flat_map}
use Rattle.label_sets.specs.Lists.{first_of_each}
use Rattle.page_model.specs.declared.page.Reading.{Reading}
use Rattle.page_model.specs.declared.page.Family.{Family}
use Rattle.page_model.specs.declared.page.Page.{Page}
use Rattle.page_model.specs.Presence.{all_readings}
use Rattle.otlp_tree.specs.declared.tree.ScopeMetrics.{ScopeMetrics}
use Rattle.otlp_tree.specs.declared.tree.Metric.{Metric}
use Rattle.start_times.specs.declared.row.Placed.{Placed}
use Rattle.target_pages.specs.Thinned.{page_where}
use Rattle.family_metrics.specs.declared.markers.Marker.{Marker}
use Rattle.family_metrics.specs.Scopes.{Scope, scope_eq, scope_of, bridge_scope}
use Rattle.family_metrics.specs.Points.{point_of}
use Rattle.family_metrics.specs.Metrics.{event_metrics}
use Rattle.family_metrics.specs.PlacedMarkers.{family_readings, families_page}

-- a scope with its metrics, left out where it has none
abbrev pub scope_with : Scope → List Metric → List ScopeMetrics
scope_with s [] = []
scope_with s (m ∷ ms) = record { name = s.name; version = s.version; metrics = m ∷ ms } ∷ []

-- the reading is of a series of this scope
abbrev pub is_in_scope : Scope → Reading → Bool
is_in_scope s r = scope_eq s (scope_of r.key.labels)

-- the marker is of a series of this scope
abbrev pub is_marked_in : Scope → Marker → Bool
is_marked_in s m = scope_eq s (scope_of m.key.labels)

-- the reading has a point
abbrev pub has_point : (Reading → Option Placed) → Reading → Bool
has_point place r = is_some (point_of place r)

-- the scopes of readings that have points, one for each, in page order
abbrev pub reading_scopes : (Reading → Option Placed) → Page → List Scope
reading_scopes place page = map (λ (r : Reading). scope_of r.key.labels) (filter (has_point place) (all_readings page))

-- the scopes of markers, one for each, in their order
abbrev pub marker_scopes : List Marker → List Scope
marker_scopes ms = map (λ (m : Marker). scope_of m.key.labels) ms

-- the scopes, each once: first the bridge's own for series that name none, then the others in the order of their first points, then of their first markers
abbrev pub scopes_in : (Reading → Option Placed) → List Marker → Page → List Scope
scopes_in place ms page = first_of_each scope_eq (bridge_scope ∷ reading_scopes place page ++ marker_scopes ms)

-- a scope with the metrics of its own series
abbrev pub scope_metrics : (Reading → Option Placed) → List Marker → Page → Scope → List ScopeMetrics
scope_metrics place ms page s = scope_with s (event_metrics place (filter (is_marked_in s) ms) (page_where (is_in_scope s) page))

-- the scopes of a page and of markers, with their metrics
unfoldable pub series_scopes : (Reading → Option Placed) → List Marker → Page → List ScopeMetrics
series_scopes place ms page = flat_map (scope_metrics place ms page) (scopes_in place ms page)

-- ---- families, with the places of their readings

-- where these are the places of their readings, this is the bridge's own scope with the metrics of families and of markers, left out where it has none
abbrev pub IsBridgeScopeAlone : List Family → List (Option Placed) → List Marker → List ScopeMetrics → Type 0
IsBridgeScopeAlone fs places ms scopes = (place : Reading → Option Placed) → places ≡ map place (family_readings fs) → scopes ≡ scope_with bridge_scope (event_metrics place ms (families_page fs))

-- where these are the places of their readings, these are the scopes of families and of markers, with their metrics
abbrev pub AreSeriesScopes : List Family → List (Option Placed) → List Marker → List ScopeMetrics → Type 0
AreSeriesScopes fs places ms scopes = (place : Reading → Option Placed) → places ≡ map place (family_readings fs) → scopes ≡ series_scopes place ms (families_page fs)
