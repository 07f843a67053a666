-- The readings of a page that have points, and the markers of a scrape, by their scopes, as the tree is made of them.
-- The bridge's own.
use Rattle.std.specs.Prelude.{◌≡◌, ℕ, suc, Bool, true, false, ◌==◌, Option, Some, None, option_map, slice_get, if◌then◌else◌, List, [], ◌∷◌, ◌++◌, map, filter}
use Rattle.std.specs.List.{AllByRecursion, flat_map, fold, list_any}
use Rattle.std.specs.Str.{bytes_eq}
use Rattle.label_sets.specs.declared.kind.Kind.TheVariants.{Unknown}
use Rattle.label_sets.specs.Lists.{first_of_each, when_true}
use Rattle.page_model.specs.declared.page.Reading.{Reading}
use Rattle.page_model.specs.declared.page.Family.{Family}
use Rattle.otlp_tree.specs.declared.tree.ScopeMetrics.{ScopeMetrics}
use Rattle.start_times.specs.declared.row.Placed.{Placed}
use Rattle.start_times.specs.declared.row.Placed.TheVariants.{At}
use Rattle.family_metrics.specs.declared.markers.Marker.{Marker}
use Rattle.family_metrics.specs.Scopes.{Scope, scope_eq, scope_of, bridge_scope}
use Rattle.family_metrics.specs.MarkerGroups.{identity_bytes}
use Rattle.scope_metrics.specs.PageScopes.{has_point, scope_with}
use Rattle.family_metrics.specs.Metrics.{event_metrics}
use Rattle.family_metrics.specs.PlacedMarkers.{family_readings, families_page}

-- ---- what is of one scope

-- the family whose readings may still come, with those so far, and its number among those of its page
pub record LastOfScope : Type 0 where
  pub number : ℕ
  pub family : Family

-- what is of one scope so far: its families, but for the last, the last one, the places of their readings, and the markers
pub record OfScope : Type 0 where
  pub scope : Scope
  pub families : List Family
  pub last : Option LastOfScope
  pub places : List (Option Placed)
  pub markers : List Marker

-- a scope without series
abbrev pub no_series : Scope → OfScope
no_series s = record { scope = s; families = []; last = None; places = []; markers = [] }

-- a family with these readings in place of its own
abbrev pub family_holding : Family → List Reading → Family
family_holding f readings = record { name = f.name; kind = f.kind; help = f.help; unit = f.unit; readings = readings }

-- the last family, where there is one
abbrev pub last_families : Option LastOfScope → List Family
last_families None = []
last_families (Some l) = l.family ∷ []

-- all families of a scope
abbrev pub all_families : OfScope → List Family
all_families q = q.families ++ last_families q.last

-- all families, and no last one
unfoldable pub closed_part : OfScope → OfScope
closed_part q = record { scope = q.scope; families = all_families q; last = None; places = q.places; markers = q.markers }

-- the last family is the one of this number
abbrev pub is_last : ℕ → Option LastOfScope → Bool
is_last n None = false
is_last n (Some l) = l.number == n

-- the family of this number as the last one, behind the others, without readings
abbrev pub part_started : ℕ → Family → OfScope → OfScope
part_started n f q = record {
  scope = q.scope;
  families = all_families q;
  last = Some (record { number = n; family = family_holding f [] });
  places = q.places;
  markers = q.markers;
}

-- the same, unless that family is the last one already
unfoldable pub part_with_last : ℕ → Family → OfScope → OfScope
part_with_last n f q = if is_last n q.last then q else part_started n f q

-- a family with one reading more
abbrev pub last_grown : Reading → LastOfScope → LastOfScope
last_grown r l = record { number = l.number; family = family_holding l.family (l.family.readings ++ r ∷ []) }

-- one reading more of the last family, with its place
unfoldable pub reading_behind : Reading → Option Placed → OfScope → OfScope
reading_behind r p q = record { scope = q.scope; families = q.families; last = option_map (last_grown r) q.last; places = q.places ++ p ∷ []; markers = q.markers }

-- one marker more
unfoldable pub marker_behind : Marker → OfScope → OfScope
marker_behind m q = record { scope = q.scope; families = q.families; last = q.last; places = q.places; markers = q.markers ++ m ∷ [] }

-- ---- readings and markers one after the other

-- a reading with its place, of a family with its number, or a marker
pub data Item : Type 0 where
  of_reading : ℕ → Family → Reading → Option Placed → Item
  of_marker : Marker → Item

-- the scope of its series
abbrev pub item_scope : Item → Scope
item_scope (of_reading n f r p) = scope_of r.key.labels
item_scope (of_marker m) = scope_of m.key.labels

-- one more of a scope
abbrev pub item_behind : OfScope → Item → OfScope
item_behind q (of_reading n f r p) = reading_behind r p (part_with_last n f q)
item_behind q (of_marker m) = marker_behind m q

-- what is of a scope among these
unfoldable pub items_in_scope : List Item → Scope → OfScope
items_in_scope items s = fold item_behind (no_series s) (filter (λ (x : Item). scope_eq s (item_scope x)) items)

-- the scopes of these, each once, behind the bridge's own
abbrev pub item_scopes : List Item → List Scope
item_scopes items = first_of_each scope_eq (bridge_scope ∷ map item_scope items)

-- all of these by their scopes
unfoldable pub items_by_scope : List Item → List OfScope
items_by_scope items = map (items_in_scope items) (item_scopes items)

-- where the parts before are those of some items, the parts after are those of the same items with these behind them
abbrev pub PutsBehind : List OfScope → List Item → List OfScope → Type 0
PutsBehind before more after = (items : List Item) → before ≡ items_by_scope items → after ≡ items_by_scope (items ++ more)

-- ---- those of a page and of markers

-- a place gives a point
abbrev pub is_at : Option Placed → Bool
is_at (Some (At time start)) = true
is_at _ = false

-- a reading of a family with its place, where that gives a point
abbrev pub placed_item : ℕ → Family → Reading × Option Placed → Option Item
placed_item n f p = when_true (is_at p.1) (of_reading n f p.0 p.1)

-- the readings of a family that have points
abbrev pub placed_items : (Reading → Option Placed) → ℕ → Family → List Item
placed_items place n f = map (λ (r : Reading). of_reading n f r (place r)) (filter (has_point place) f.readings)

-- those of families that are numbered from this number on
abbrev pub all_placed_items : (Reading → Option Placed) → ℕ → List Family → List Item
all_placed_items place n [] = []
all_placed_items place n (f ∷ fs) = placed_items place n f ++ all_placed_items place (suc n) fs

-- where these are the places of their readings, the parts are those of the readings of families that have points
abbrev pub AreReadingsByScope : List Family → List (Option Placed) → List OfScope → Type 0
AreReadingsByScope fs places parts = (place : Reading → Option Placed) → places ≡ map place (family_readings fs) → parts ≡ items_by_scope (all_placed_items place 0 fs)

-- where these are the places of their readings, the parts are those of the readings of families that have points, and of markers behind them
abbrev pub AreAllByScope : List Family → List (Option Placed) → List Marker → List OfScope → Type 0
AreAllByScope fs places ms parts = (place : Reading → Option Placed) → places ≡ map place (family_readings fs) → parts ≡ items_by_scope (all_placed_items place 0 fs ++ map of_marker ms)

-- ---- the scopes of the tree

-- the places are those of all readings of the scope
abbrev pub HasOwnPlaces : (Reading → Option Placed) → OfScope → Type 0
HasOwnPlaces place q = q.places ≡ map place (family_readings (all_families q))

-- a scope with the metrics of its series, left out where it has none
unfoldable pub scope_of_part : (Reading → Option Placed) → OfScope → List ScopeMetrics
scope_of_part place q = scope_with q.scope (event_metrics place q.markers (families_page (all_families q)))

-- where parts have the places of their own readings, these are their scopes
abbrev pub AreScopesOfParts : List OfScope → List ScopeMetrics → Type 0
AreScopesOfParts parts scopes = (place : Reading → Option Placed) → AllByRecursion (HasOwnPlaces place) parts → scopes ≡ flat_map (scope_of_part place) parts

-- ---- scopes as bytes

-- name and version, as those of a metric's name and unit
abbrev pub scope_bytes : Scope → List ℕ
scope_bytes s = identity_bytes s.name Unknown s.version

-- those of the scope of a part
abbrev pub part_identity : OfScope → List ℕ
part_identity q = scope_bytes q.scope

-- the parts with one of this scope, which is put behind the others where there was none, and its place
pub record IsPartFor (s : Scope) (old new : List OfScope) (at : ℕ) : Type 0 where
  pub parts_are : new ≡ (if list_any (bytes_eq (scope_bytes s)) (map part_identity old) then old else old ++ no_series s ∷ [])
  pub at_is : slice_get (map part_identity new) at ≡ Some (scope_bytes s)

-- ---- families of a page

-- a reading has this name and this unit
pub record HasName (name unit : List ℕ) (r : Reading) : Type 0 where
  pub name_is : r.key.name ≡ name
  pub unit_is : r.key.unit ≡ unit

-- the readings of a family have one name and one unit
pub record AreAlike (f : Family) : Type 0 where
  pub name : List ℕ
  pub unit : List ℕ
  pub each : AllByRecursion (HasName name unit) f.readings
