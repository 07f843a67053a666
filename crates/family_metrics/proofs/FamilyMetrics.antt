-- The metrics of families with the places of their readings and with markers.
use Rattle.std.proofs.Common.{◌≡◌, ℕ, suc, ◌+◌, ◌<◌, Bool, true, List, [], ◌∷◌, ◌++◌, map, filter_map, take, drop, length, get_or, Option, Some, None, option_map, refl, sym, ap, subst, ◌∙◌, add-one}
use Rattle.std.specs.Prelude.{slice_get, is_some}
use Rattle.std.specs.List.{cons_option}
use Rattle.std.specs.Option.{option_map_or}
use Rattle.std.proofs.Math.Seq.{drop-cons}
use Rattle.std.proofs.lemmas.List.{append-nil, map-append, length-map, take_at, drop_at}
use Rattle.std.proofs.lemmas.List.Elements.{filter_map-append}
use Rattle.label_sets.specs.declared.kind.Kind.{Kind}
use Rattle.page_model.specs.declared.page.Reading.{Reading}
use Rattle.page_model.specs.declared.page.Family.{Family}
use Rattle.otlp_tree.specs.declared.tree.Metric.{Metric}
use Rattle.otlp_tree.specs.declared.tree.Shape.{Shape}
use Rattle.start_times.specs.declared.row.Placed.{Placed}
use Rattle.family_metrics.specs.declared.markers.Marker.{Marker}
use Rattle.family_metrics.specs.Points.{point_in, point_of, points_with}
use Rattle.family_metrics.specs.Markers.{shape_with, metric_with, markers_of, with_markers}
use Rattle.family_metrics.specs.MarkerGroups.{GroupedMarkers, marker_groups, no_group, placed_at, alone_metric, identity_bytes, IsPlaceOf}
use Rattle.family_metrics.specs.Metrics.{shape_of, metric_of, family_metric, kind_metric, event_metrics}
use Rattle.family_metrics.specs.PlacedMarkers.{family_readings, families_page, IsPlacedMetric, ArePlacedMetrics}
use Rattle.family_metrics.proofs.Placing.{one_more}
use Rattle.family_metrics.proofs.Grouped.{found_markers, found_placed, absent_markers, absent_placed, alone_metrics}

-- readings beside their places have the points of those places
beside : (place : Reading → Option Placed) (rs : List Reading) → points_with rs (map place rs) ≡ filter_map (point_of place) rs
beside place [] = refl
beside place (r ∷ rs) = ap (cons_option (point_in (place r) r)) (beside place rs)

-- a shape with a name, where there is one
abbrev pub named : List ℕ → List ℕ → List ℕ → Option Shape → Option Metric
named name help unit shape = option_map (λ (s : Shape). record { name = name; description = help; unit = unit; shape = s }) shape

with_named : (ms : List Marker) (name help unit : List ℕ) (o : Option Shape) → named name help unit (option_map (shape_with ms) o) ≡ option_map (metric_with ms) (named name help unit o)
unfolding metric_with
with_named ms name help unit None = refl
with_named ms name help unit (Some s) = refl

-- the metric of a family by its first reading and its shape
pub metric_is : (place : Reading → Option Placed) (f : Family) (places : List (Option Placed)) (ms : List Marker) (slice : List Reading) (first : Reading) (shape : Option Shape) → slice ≡ f.readings → Some first ≡ slice_get slice 0
    → shape ≡ option_map (shape_with ms) (shape_of f.kind (points_with slice places)) → places ≡ map place f.readings
    → named first.key.name f.help first.key.unit shape ≡ option_map (metric_with ms) (family_metric place f)
metric_is place f places ms slice first shape same e is own =
    go f.readings (ap (λ l. slice_get l 0) (sym same) ∙ sym e) (is ∙ ap (λ l. option_map (shape_with ms) (shape_of f.kind (points_with l places))) same) own
  where
    go : (rs : List Reading) → slice_get rs 0 ≡ Some first → shape ≡ option_map (shape_with ms) (shape_of f.kind (points_with rs places)) → places ≡ map place rs
        → named first.key.name f.help first.key.unit shape ≡ option_map (metric_with ms) (metric_of place f.kind f.help rs)
    go [] e is own = absurd cc
    go (r ∷ rs) e is own =
        let same : r ≡ first = cc in
        let points : points_with (r ∷ rs) places ≡ filter_map (point_of place) (r ∷ rs) = ap (points_with (r ∷ rs)) own ∙ beside place (r ∷ rs) in
        ap (named first.key.name f.help first.key.unit) (is ∙ ap (λ ps. option_map (shape_with ms) (shape_of f.kind ps)) points)
        ∙ with_named ms first.key.name f.help first.key.unit (shape_of f.kind (filter_map (point_of place) (r ∷ rs)))
        ∙ ap (λ (x : Reading). option_map (metric_with ms) (named x.key.name f.help x.key.unit (shape_of f.kind (filter_map (point_of place) (r ∷ rs))))) (sym same)

-- a metric has the name and the unit of the first reading
record IsNamed (first : Reading) (m : Metric) : Type 0 where
  name_is : m.name ≡ first.key.name
  unit_is : m.unit ≡ first.key.unit

metric_named : (place : Reading → Option Placed) (f : Family) (first : Reading) (m : Metric) → slice_get f.readings 0 ≡ Some first → family_metric place f ≡ Some m → IsNamed first m
metric_named place f first m e is = go f.readings e is
  where
    by : (r : Reading) (o : Option Shape) → r ≡ first → named r.key.name f.help r.key.unit o ≡ Some m → IsNamed first m
    by r None same h = absurd cc
    by r (Some s) same h =
        let it : record { name = r.key.name; description = f.help; unit = r.key.unit; shape = s } ≡ m = cc in
        record { name_is = sym (ap (λ (x : Metric). x.name) it) ∙ ap (λ (x : Reading). x.key.name) same; unit_is = sym (ap (λ (x : Metric). x.unit) it) ∙ ap (λ (x : Reading). x.key.unit) same }

    go : (rs : List Reading) → slice_get rs 0 ≡ Some first → metric_of place f.kind f.help rs ≡ Some m → IsNamed first m
    go [] e h = absurd cc
    go (r ∷ rs) e h = let same : r ≡ first = cc in by r (shape_of f.kind (filter_map (point_of place) (r ∷ rs))) same h

-- ---- the metric of a family with its markers

-- the markers at a place, where there is one
abbrev markers_there : List GroupedMarkers → Option ℕ → List Marker
markers_there groups place = option_map_or (λ at. (get_or groups at no_group).markers) place []

module _ (before : List (Kind × Metric)) (kind : Kind) (m : Metric) (ms : List Marker) (groups : List GroupedMarkers) (is : groups ≡ marker_groups before ms) where
  there_markers : (place : Option ℕ) → IsPlaceOf (identity_bytes m.name kind m.unit) groups place → markers_there groups place ≡ markers_of kind m ms
  there_markers None e = absent_markers before kind m ms groups is e
  there_markers (Some at) e = found_markers before kind m ms groups is at no_group e

  there_placed : (place : Option ℕ) → IsPlaceOf (identity_bytes m.name kind m.unit) groups place → placed_at true place groups ≡ marker_groups (before ++ (kind, m) ∷ []) ms
  there_placed None e = absent_placed before kind m ms groups is e
  there_placed (Some at) e = found_placed before kind m ms groups is at no_group e

-- a family without readings has no metric, and the groups stay
pub none_placed : (place : Reading → Option Placed) (f : Family) (slice : List Reading) (ms : List Marker) (before : List (Kind × Metric)) (groups : List GroupedMarkers)
    → slice ≡ f.readings → None ≡ slice_get slice 0 → groups ≡ marker_groups before ms → IsPlacedMetric place f ms before None groups
none_placed place f slice ms before groups same none is = go f.readings refl (ap (λ l. slice_get l 0) (sym same) ∙ sym none)
  where
    go : (rs : List Reading) → f.readings ≡ rs → slice_get rs 0 ≡ None → IsPlacedMetric place f ms before None groups
    go [] e n = record {
      metric_is = sym (ap (λ rs. option_map (λ (m : Metric). with_markers ms f.kind m) (metric_of place f.kind f.help rs)) e);
      groups_are = is ∙ ap (λ l. marker_groups l ms) (sym (append-nil before))
          ∙ sym (ap (λ rs. marker_groups (before ++ cons_option (option_map (λ (m : Metric). (f.kind, m)) (metric_of place f.kind f.help rs)) []) ms) e);
    }
    go (r ∷ rs) e n = absurd cc

placed_step : (place : Reading → Option Placed) (f : Family) (first : Reading) (ms : List Marker) (before : List (Kind × Metric)) (at : Option ℕ) (groups after : List GroupedMarkers) (markers : List Marker) (metric : Option Metric)
    → slice_get f.readings 0 ≡ Some first → groups ≡ marker_groups before ms → IsPlaceOf (identity_bytes first.key.name f.kind first.key.unit) groups at → markers ≡ markers_there groups at
    → metric ≡ option_map (metric_with markers) (family_metric place f) → after ≡ placed_at (is_some metric) at groups → IsPlacedMetric place f ms before metric after
placed_step place f first ms before at groups after markers metric front is here own has then =
    let both = go (family_metric place f) refl has in
    record { metric_is = both.0; groups_are = both.1 }
  where
    go : (o : Option Metric) → family_metric place f ≡ o → metric ≡ option_map (metric_with markers) o
        → (metric ≡ option_map (λ (m : Metric). with_markers ms f.kind m) o) × (after ≡ marker_groups (before ++ cons_option (option_map (λ (m : Metric). (f.kind, m)) o) []) ms)
    go None e h = (h, then ∙ ap (λ (x : Option Metric). placed_at (is_some x) at groups) h ∙ is ∙ ap (λ l. marker_groups l ms) (sym (append-nil before)))
    go (Some m) e h =
        let n = metric_named place f first m front e in
        let there : IsPlaceOf (identity_bytes m.name f.kind m.unit) groups at = subst (λ (b : List ℕ). IsPlaceOf b groups at) (λ i. identity_bytes (sym n.name_is i) f.kind (sym n.unit_is i)) here in (
          h ∙ ap (λ l. Some (metric_with l m)) (own ∙ there_markers before f.kind m ms groups is at there),
          then ∙ ap (λ (x : Option Metric). placed_at (is_some x) at groups) h ∙ there_placed before f.kind m ms groups is at there,
        )

-- the same, with what was read on the way
pub placed_here : (place : Reading → Option Placed) (f : Family) (slice : List Reading) (first : Reading) (name unit : List ℕ) (ms : List Marker) (before : List (Kind × Metric)) (at : Option ℕ) (old groups after : List GroupedMarkers)
    (markers : List Marker) (metric : Option Metric) (is_there : Bool)
    → slice ≡ f.readings → Some first ≡ slice_get slice 0 → name ≡ first.key.name → unit ≡ first.key.unit → old ≡ marker_groups before ms → IsPlaceOf (identity_bytes name f.kind unit) old at → groups ≡ old → markers ≡ markers_there groups at
    → metric ≡ option_map (metric_with markers) (family_metric place f) → is_there ≡ is_some metric → after ≡ placed_at is_there at groups → IsPlacedMetric place f ms before metric after
placed_here place f slice first name unit ms before at old groups after markers metric is_there same front name_is unit_is is here kept own has told then =
    placed_step place f first ms before at old after markers metric (ap (λ l. slice_get l 0) (sym same) ∙ sym front) is
    (subst (λ (b : List ℕ). IsPlaceOf b old at) (λ i. identity_bytes (name_is i) f.kind (unit_is i)) here) (own ∙ ap (λ l. markers_there l at) kept)
    has (then ∙ (λ i. placed_at (told i) at (kept i)))

-- ---- the metrics of families, one after the other

-- what stands where some families were passed: their metrics, the places of the readings that are left, and the groups
pub record ArePassed (place : Reading → Option Placed) (ms : List Marker) (passed left : List Family) (metrics : List Metric) (places : List (Option Placed)) (groups : List GroupedMarkers) : Type 0 where
  pub metrics_are : metrics ≡ map (λ (p : Kind × Metric). with_markers ms p.0 p.1) (filter_map (kind_metric place) passed)
  pub places_are : places ≡ map place (family_readings left)
  pub groups_are : groups ≡ marker_groups (filter_map (kind_metric place) passed) ms

-- the places of the next family, and those behind it
pub own_places : (place : Reading → Option Placed) (f : Family) (fs : List Family) (places : List (Option Placed)) → places ≡ map place (family_readings (f ∷ fs)) → take (length f.readings) places ≡ map place f.readings
own_places place f fs places is = ap (take (length f.readings)) (is ∙ map-append place f.readings (family_readings fs)) ∙ take_at (map place f.readings) (map place (family_readings fs)) (length f.readings) (length-map f.readings place)

pub later_places : (place : Reading → Option Placed) (f : Family) (fs : List Family) (places : List (Option Placed)) → places ≡ map place (family_readings (f ∷ fs)) → drop (length f.readings) places ≡ map place (family_readings fs)
later_places place f fs places is = ap (drop (length f.readings)) (is ∙ map-append place f.readings (family_readings fs)) ∙ drop_at (map place f.readings) (map place (family_readings fs)) (length f.readings) (length-map f.readings place)

metric_behind : (place : Reading → Option Placed) (ms : List Marker) (passed : List Family) (f : Family) (metrics : List Metric) (metric : Option Metric)
    → metrics ≡ map (λ (p : Kind × Metric). with_markers ms p.0 p.1) (filter_map (kind_metric place) passed) → metric ≡ option_map (λ (m : Metric). with_markers ms f.kind m) (family_metric place f)
    → metrics ++ cons_option metric [] ≡ map (λ (p : Kind × Metric). with_markers ms p.0 p.1) (filter_map (kind_metric place) (passed ++ f ∷ []))
metric_behind place ms passed f metrics metric are is =
    (λ i. are i ++ cons_option (is i) []) ∙ ap (λ l. map with_own (filter_map (kind_metric place) passed) ++ l) (by (family_metric place f))
    ∙ sym (map-append with_own (filter_map (kind_metric place) passed) (filter_map (kind_metric place) (f ∷ [])))
    ∙ ap (map with_own) (sym (filter_map-append (kind_metric place) passed (f ∷ [])))
  where
    with_own : Kind × Metric → Metric
    with_own p = with_markers ms p.0 p.1

    by : (o : Option Metric) → cons_option (option_map (λ (m : Metric). with_markers ms f.kind m) o) [] ≡ map (λ (p : Kind × Metric). with_markers ms p.0 p.1) (cons_option (option_map (λ (m : Metric). (f.kind, m)) o) [])
    by None = refl
    by (Some m) = refl

family_passed : (place : Reading → Option Placed) (ms : List Marker) (passed later : List Family) (f : Family) (metrics more : List Metric) (places rest : List (Option Placed)) (groups after : List GroupedMarkers) (metric : Option Metric)
    → ArePassed place ms passed (f ∷ later) metrics places groups → IsPlacedMetric place f ms (filter_map (kind_metric place) passed) metric after
    → more ≡ metrics ++ cons_option metric [] → rest ≡ drop (length f.readings) places → ArePassed place ms (passed ++ f ∷ []) later more rest after
family_passed place ms passed later f metrics more places rest groups after metric are own is behind = record {
  metrics_are = is ∙ metric_behind place ms passed f metrics metric are.metrics_are own.metric_is;
  places_are = behind ∙ later_places place f later places are.places_are;
  groups_are = own.groups_are ∙ ap (λ l. marker_groups l ms) (sym (filter_map-append (kind_metric place) passed (f ∷ [])));
}

-- the families behind the front, where one of them is read
pub next_family : (fs : List Family) (i : ℕ) (f : Family) → i < length fs → f ≡ get_or fs i f → drop i fs ≡ f ∷ drop (i + 1) fs
next_family fs i f within read = drop-cons fs i f within ∙ ap (λ x. x ∷ drop (suc i) fs) (sym read) ∙ ap (λ n. f ∷ drop n fs) (sym (add-one i))

pub page_step : (place : Reading → Option Placed) (ms : List Marker) (fs : List Family) (i : ℕ) (f : Family) (metrics more : List Metric) (places own rest : List (Option Placed)) (groups after : List GroupedMarkers) (metric : Option Metric) (count : ℕ)
    → i < length fs → f ≡ get_or fs i f → ArePassed place ms (take i fs) (drop i fs) metrics places groups → count ≡ length f.readings → own ≡ take count places
    → ((before : List (Kind × Metric)) → own ≡ map place f.readings → groups ≡ marker_groups before ms → IsPlacedMetric place f ms before metric after)
    → more ≡ metrics ++ cons_option metric [] → rest ≡ drop count places → ArePassed place ms (take (i + 1) fs) (drop (i + 1) fs) more rest after
page_step place ms fs i f metrics more places own rest groups after metric count within read are many own_is step is behind =
    let passed : ArePassed place ms (take i fs) (f ∷ drop (i + 1) fs) metrics places groups = subst (λ (l : List Family). ArePassed place ms (take i fs) l metrics places groups) (next_family fs i f within read) are in
    let own_are : own ≡ map place f.readings = own_is ∙ ap (λ n. take n places) many ∙ own_places place f (drop (i + 1) fs) places passed.places_are in
    subst (λ (l : List Family). ArePassed place ms l (drop (i + 1) fs) more rest after) (sym (one_more fs i f within read))
    (family_passed place ms (take i fs) (drop (i + 1) fs) f metrics more places rest groups after metric passed (step (filter_map (kind_metric place) (take i fs)) own_are are.groups_are)
    is (behind ∙ ap (λ n. drop n places) many))

-- behind the last one
pub all_passed : (place : Reading → Option Placed) (ms : List Marker) (fs : List Family) (i : ℕ) (metrics : List Metric) (places : List (Option Placed)) (groups : List GroupedMarkers)
    → take i fs ≡ fs → ArePassed place ms (take i fs) (drop i fs) metrics places groups → ArePlacedMetrics place fs ms metrics groups
all_passed place ms fs i metrics places groups all are = record {
  metrics_are = are.metrics_are ∙ ap (λ l. map (λ (p : Kind × Metric). with_markers ms p.0 p.1) (filter_map (kind_metric place) l)) all;
  groups_are = are.groups_are ∙ ap (λ l. marker_groups (filter_map (kind_metric place) l) ms) all;
}

-- the metrics of an event: those of the families, and those of markers alone
pub event_metrics_are : (place : Reading → Option Placed) (ms : List Marker) (fs : List Family) (metrics all : List Metric) (groups seen : List GroupedMarkers)
    → ArePlacedMetrics place fs ms metrics groups → seen ≡ groups → all ≡ metrics ++ filter_map alone_metric seen → all ≡ event_metrics place ms (families_page fs)
event_metrics_are place ms fs metrics all groups seen are told is =
    is ∙ (λ i. are.metrics_are i ++ filter_map alone_metric ((told ∙ are.groups_are) i)) ∙ ap (λ l. map (λ (p : Kind × Metric). with_markers ms p.0 p.1) (filter_map (kind_metric place) fs) ++ l) (alone_metrics (filter_map (kind_metric place) fs) ms)
