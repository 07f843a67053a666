-- Laws of the scopes. Each is proved, and a call of the crate stands for it.
-- The bridge's own.
use Rattle.std.specs.Prelude.{◌≡◌, Bool, true, List, filter, length, Option, is_none}
use Rattle.std.specs.List.{list_all, list_any}
use Rattle.label_sets.specs.declared.label_set.LabelSet.{LabelSet}
use Rattle.page_model.specs.declared.page.Reading.{Reading}
use Rattle.page_model.specs.declared.page.Family.{Family}
use Rattle.page_model.specs.declared.page.Page.{Page}
use Rattle.page_model.specs.Presence.{all_readings}
use Rattle.start_times.specs.declared.row.Placed.{Placed}
use Rattle.family_metrics.specs.declared.markers.Marker.{Marker}
use Rattle.family_metrics.specs.Scopes.{scope_eq, scope_name, scope_of, bridge_scope}
use Rattle.family_metrics.specs.Metrics.{event_metrics}
use Rattle.scope_metrics.specs.PageScopes.{scope_with, reading_scopes, marker_scopes, scopes_in, series_scopes}

-- ---- each marker and each point in one scope

-- among the scopes of an element just one is that of a marker
abbrev pub OneScopeOfMarker : Type 0
OneScopeOfMarker = (place : Reading → Option Placed) (ms : List Marker) (page : Page) (m : Marker) → list_any (scope_eq (scope_of m.key.labels)) (marker_scopes ms) ≡ true
    → length (filter (scope_eq (scope_of m.key.labels)) (scopes_in place ms page)) ≡ 1

-- and just one is that of a reading with a point
abbrev pub OneScopeOfReading : Type 0
OneScopeOfReading = (place : Reading → Option Placed) (ms : List Marker) (page : Page) (r : Reading) → list_any (scope_eq (scope_of r.key.labels)) (reading_scopes place page) ≡ true
    → length (filter (scope_eq (scope_of r.key.labels)) (scopes_in place ms page)) ≡ 1

-- ---- pages without scopes

-- the labels name no scope
abbrev pub names_none : LabelSet → Bool
names_none labels = is_none (scope_name labels)

-- no reading names a scope
abbrev pub readings_name_none : List Reading → Bool
readings_name_none readings = list_all (λ (r : Reading). names_none r.key.labels) readings

-- no reading of families names a scope
abbrev pub families_name_none : List Family → Bool
families_name_none fs = list_all (λ (f : Family). readings_name_none f.readings) fs

-- no marker names a scope
abbrev pub markers_name_none : List Marker → Bool
markers_name_none ms = list_all (λ (m : Marker). names_none m.key.labels) ms

-- where neither a reading nor a marker names a scope, all metrics are in the bridge's own
abbrev pub OneScopeAlone : Type 0
OneScopeAlone = (place : Reading → Option Placed) (ms : List Marker) (page : Page)
    → readings_name_none (all_readings page) ≡ true → markers_name_none ms ≡ true
    → series_scopes place ms page ≡ scope_with bridge_scope (event_metrics place ms page)
