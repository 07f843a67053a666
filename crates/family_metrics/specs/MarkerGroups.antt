-- The markers of a scrape by their metrics, as the tree is made of them.
-- OpenTelemetry metrics data model, "Timeseries Model" (identity). The bytes of an identity are the bridge's own.
use Rattle.std.specs.Prelude.{◌≡◌, ℕ, Bool, true, false, Option, Some, None, MatchOption, option_map, get_or, set, slice_get, if◌then◌else◌, List, [], ◌∷◌, ◌++◌, map, filter}
use Rattle.std.specs.List.{flat_map, list_any}
use Rattle.std.specs.Str.{bytes_eq}
use Rattle.label_sets.specs.declared.kind.Kind.{Kind}
use Rattle.label_sets.specs.declared.kind.Kind.TheVariants.{Unknown}
use Rattle.label_sets.specs.declared.series_key.SeriesKey.{SeriesKey}
use Rattle.label_sets.specs.Keys.{kind_place, identity_eq}
use Rattle.label_sets.specs.Lists.{first_of_each}
use Rattle.otlp_tree.specs.declared.tree.Metric.{Metric}
use Rattle.family_metrics.specs.declared.markers.Marker.{Marker}
use Rattle.family_metrics.specs.Markers.{is_of_metric, shape_with, no_points}

-- the markers of one metric: the series of the first of them, all of them, and whether the page has the metric
pub record GroupedMarkers : Type 0 where
  pub first : SeriesKey
  pub markers : List Marker
  pub placed : Bool

-- the markers of one metric with this one, beside these metrics of the page
abbrev pub marker_group : List (Kind × Metric) → List Marker → Marker → GroupedMarkers
marker_group metrics ms first = record {
  first = first.key;
  markers = filter (λ (m : Marker). identity_eq first.key m.key) ms;
  placed = list_any (λ (p : Kind × Metric). is_of_metric p.0 p.1 first.key) metrics;
}

-- all markers by their metrics, in the order of their first markers
abbrev pub marker_groups : List (Kind × Metric) → List Marker → List GroupedMarkers
marker_groups metrics ms = map (marker_group metrics ms) (first_of_each (λ (a b : Marker). identity_eq a.key b.key) ms)

-- no markers
abbrev pub no_group : GroupedMarkers
no_group = record { first = record { name = []; kind = Unknown; unit = []; labels = [] }; markers = []; placed = false }

-- one marker
abbrev pub first_group : Marker → GroupedMarkers
first_group m = record { first = m.key; markers = m ∷ []; placed = false }

-- one marker more
abbrev pub with_marker : Marker → GroupedMarkers → GroupedMarkers
with_marker m g = record { first = g.first; markers = g.markers ++ m ∷ []; placed = g.placed }

-- the same markers, of a metric that the page has
abbrev pub placed_group : GroupedMarkers → GroupedMarkers
placed_group g = record { first = g.first; markers = g.markers; placed = true }

-- groups of which the page has the metric of the one at this place, where there is one
abbrev pub placed_at : Bool → Option ℕ → List GroupedMarkers → List GroupedMarkers
placed_at false place groups = groups
placed_at true None groups = groups
placed_at true (Some at) groups = set groups at (placed_group (get_or groups at no_group))

-- the metric of markers alone, unless the page has it; it has no description
unfoldable pub alone_metric : GroupedMarkers → Option Metric
alone_metric g = if g.placed then None else option_map (λ shape. record {
  name = g.first.name;
  description = [];
  unit = g.first.unit;
  shape = shape_with g.markers shape;
}) (no_points g.first.kind)

-- ---- identities as bytes

-- name, kind and unit: each byte of the name stands behind a 1 and the kind behind a 0, so that no two identities have the same bytes
unfoldable pub identity_bytes : List ℕ → Kind → List ℕ → List ℕ
identity_bytes name kind unit = flat_map (λ (b : ℕ). 1 ∷ b ∷ []) name ++ (0 ∷ kind_place kind ∷ unit)

-- those of the metric of a series
abbrev pub key_identity : SeriesKey → List ℕ
key_identity key = identity_bytes key.name key.kind key.unit

-- those of the metric of markers
abbrev pub group_identity : GroupedMarkers → List ℕ
group_identity g = key_identity g.first

-- the place of the group with these bytes, where there is one
abbrev pub IsPlaceOf : List ℕ → List GroupedMarkers → Option ℕ → Type 0
IsPlaceOf bytes groups place = MatchOption place (list_any (bytes_eq bytes) (map group_identity groups) ≡ false) (λ at. slice_get (map group_identity groups) at ≡ Some bytes)
