-- The scopes of the parts are those of the tree.
use Rattle.std.proofs.Common.{◌≡◌, ℕ, suc, Bool, true, false, cond, List, [], ◌∷◌, ◌++◌, map, filter, filter_map, Option, Some, None, option_map, refl, sym, ap, subst, ◌∙◌, append_assoc}
use Rattle.std.specs.Prelude.{is_some}
use Rattle.std.specs.List.{AllByRecursion, flat_map, cons_option}
use Rattle.std.proofs.lemmas.List.{map-append}
use Rattle.std.proofs.lemmas.List.Elements.{filter-append, filter_map-append}
use Rattle.std.proofs.lemmas.List.Folds.{flat_map-map}
use Rattle.label_sets.specs.declared.kind.Kind.{Kind}
use Rattle.label_sets.specs.declared.kind.Kind.TheVariants.{Counter, Gauge, Histogram, GaugeHistogram, StateSet, Info, Summary, Unknown}
use Rattle.label_sets.specs.Lists.{first_of_each}
use Rattle.label_sets.proofs.Laws.{all-filter}
use Rattle.page_model.specs.declared.page.Reading.{Reading}
use Rattle.page_model.specs.declared.page.Family.{Family}
use Rattle.page_model.specs.PageValues.{PageValue}
use Rattle.otlp_tree.specs.declared.tree.Metric.{Metric}
use Rattle.otlp_tree.specs.declared.tree.ScopeMetrics.{ScopeMetrics}
use Rattle.start_times.specs.declared.row.Placed.{Placed}
use Rattle.family_metrics.specs.declared.markers.Marker.{Marker}
use Rattle.family_metrics.specs.Scopes.{Scope, scope_eq, scope_of, bridge_scope}
use Rattle.family_metrics.specs.Points.{Point, point_of}
use Rattle.family_metrics.specs.Markers.{with_markers, markers_left, marker_metrics}
use Rattle.family_metrics.specs.Metrics.{shape_of, metric_of, kind_metric, event_metrics}
use Rattle.scope_metrics.specs.PageScopes.{scope_with, is_in_scope, is_marked_in, has_point, marker_scopes, scopes_in, scope_metrics, series_scopes}
use Rattle.family_metrics.specs.PlacedMarkers.{family_readings, families_page}
use Rattle.scope_metrics.specs.ScopeParts.{OfScope, family_holding, Item, of_reading, of_marker, item_scope, items_in_scope, item_scopes, items_by_scope, placed_items, all_placed_items, HasOwnPlaces, scope_of_part, HasName, AreAlike}
use Rattle.family_metrics.proofs.Laws.{named}
use Rattle.scope_metrics.proofs.ScopeFamilies.{some_family, own_of, own_families, IsPartOf, part_is}

module _ (place : Reading → Option Placed) where
  -- ---- readings without a point

  no_shape : (kind : Kind) → shape_of kind [] ≡ None
  unfolding shape_of
  no_shape Counter = refl
  no_shape Gauge = refl
  no_shape Histogram = refl
  no_shape GaugeHistogram = refl
  no_shape StateSet = refl
  no_shape Info = refl
  no_shape Summary = refl
  no_shape Unknown = refl

  same_points : (rs : List Reading) → filter_map (point_of place) (filter (has_point place) rs) ≡ filter_map (point_of place) rs
  same_points [] = refl
  same_points (r ∷ rs) = by (point_of place r) refl (same_points rs)
    where
      by : (o : Option Point) → point_of place r ≡ o → filter_map (point_of place) (filter (has_point place) rs) ≡ filter_map (point_of place) rs
          → filter_map (point_of place) (cond (is_some (point_of place r)) (r ∷ filter (has_point place) rs) (filter (has_point place) rs)) ≡ cons_option (point_of place r) (filter_map (point_of place) rs)
      by None e ih = ap (λ o. filter_map (point_of place) (cond (is_some o) (r ∷ filter (has_point place) rs) (filter (has_point place) rs))) e
          ∙ ih ∙ ap (λ o. cons_option o (filter_map (point_of place) rs)) (sym e)
      by (Some p) e ih = ap (λ o. filter_map (point_of place) (cond (is_some o) (r ∷ filter (has_point place) rs) (filter (has_point place) rs))) e
          ∙ ap (cons_option (point_of place r)) ih

  by_name : (kind : Kind) (help name unit : List ℕ) (rs : List Reading) → AllByRecursion (HasName name unit) rs
      → metric_of place kind help rs ≡ named name help unit (shape_of kind (filter_map (point_of place) rs))
  by_name kind help name unit [] all = sym (ap (named name help unit) (no_shape kind))
  by_name kind help name unit (r ∷ rs) all = λ i. named (all.0.name_is i) help (all.0.unit_is i) (shape_of kind (filter_map (point_of place) (r ∷ rs)))

  -- a metric is that of the readings that have points
  same_metric : (kind : Kind) (help name unit : List ℕ) (rs : List Reading) → AllByRecursion (HasName name unit) rs → metric_of place kind help (filter (has_point place) rs) ≡ metric_of place kind help rs
  same_metric kind help name unit rs all =
      by_name kind help name unit (filter (has_point place) rs) (all-filter (HasName name unit) (has_point place) rs all)
      ∙ ap (λ ps. named name help unit (shape_of kind ps)) (same_points rs)
      ∙ sym (by_name kind help name unit rs all)

  -- ---- the metrics of a scope

  swapped : (p q : Reading → Bool) (rs : List Reading) → filter p (filter q rs) ≡ filter q (filter p rs)
  swapped p q [] = refl
  swapped p q (r ∷ rs) = by (p r) refl (q r) refl (swapped p q rs)
    where
      by : (b : Bool) → p r ≡ b → (c : Bool) → q r ≡ c → filter p (filter q rs) ≡ filter q (filter p rs) → filter p (filter q (r ∷ rs)) ≡ filter q (filter p (r ∷ rs))
      by true e true f ih = rw (f, e, f) (ap (λ l. r ∷ l) ih)
      by true e false f ih = rw (f, e, f) ih
      by false e true f ih = rw (f, e) ih
      by false e false f ih = rw (f, e) ih

  family_same : (s : Scope) (f : Family) → AreAlike f → kind_metric place (family_holding f (own_of place s f)) ≡ kind_metric place (family_holding f (filter (is_in_scope s) f.readings))
  family_same s f alike = ap (option_map (λ (m : Metric). (f.kind, m)))
      (ap (metric_of place f.kind f.help) (swapped (is_in_scope s) (has_point place) f.readings)
      ∙ same_metric f.kind f.help alike.name alike.unit (filter (is_in_scope s) f.readings) (all-filter (HasName alike.name alike.unit) (is_in_scope s) f.readings alike.each))

  some_metric : (f : Family) (rs : List Reading) (more : List (Kind × Metric)) → filter_map (kind_metric place) (some_family f rs) ++ more ≡ cons_option (kind_metric place (family_holding f rs)) more
  some_metric f [] more = refl
  some_metric f (r ∷ rs) more = by (kind_metric place (family_holding f (r ∷ rs)))
    where
      by : (o : Option (Kind × Metric)) → cons_option o [] ++ more ≡ cons_option o more
      by None = refl
      by (Some m) = refl

  same_metrics : (s : Scope) (fs : List Family) → AllByRecursion AreAlike fs
      → filter_map (kind_metric place) (own_families place s fs) ≡ filter_map (kind_metric place) (map (λ (f : Family). family_holding f (filter (is_in_scope s) f.readings)) fs)
  same_metrics s [] alike = refl
  same_metrics s (f ∷ fs) alike =
      filter_map-append (kind_metric place) (some_family f (own_of place s f)) (own_families place s fs)
      ∙ some_metric f (own_of place s f) (filter_map (kind_metric place) (own_families place s fs))
      ∙ (λ i. cons_option (family_same s f alike.0 i) (same_metrics s fs alike.1 i))

  -- metrics with their markers, and those of markers alone
  abbrev with_alone : List Marker → List (Kind × Metric) → List Metric
  with_alone ms metrics = map (λ (m : Kind × Metric). with_markers ms m.0 m.1) metrics ++ marker_metrics (markers_left metrics ms)

  part_scope_is : (page : PageValue) (ms : List Marker) (s : Scope) (q : OfScope) → AllByRecursion AreAlike page.families → IsPartOf place page.families ms s q
      → scope_of_part place q ≡ scope_metrics place ms page s
  unfolding scope_of_part
  part_scope_is page ms s q alike is =
      (λ i. scope_with (is.scope_is i) (event_metrics place (is.markers_are i) (families_page (is.families_are i))))
      ∙ ap (λ l. scope_with s (with_alone (filter (is_marked_in s) ms) l)) (same_metrics s page.families alike)

  -- ---- the scopes

  item_scopes_are : (n : ℕ) (f : Family) (rs : List Reading) → map item_scope (map (λ (r : Reading). of_reading n f r (place r)) rs) ≡ map (λ (r : Reading). scope_of r.key.labels) rs
  item_scopes_are n f [] = refl
  item_scopes_are n f (r ∷ rs) = ap (λ l. scope_of r.key.labels ∷ l) (item_scopes_are n f rs)

  page_scopes_are : (n : ℕ) (fs : List Family) → map item_scope (all_placed_items place n fs) ≡ map (λ (r : Reading). scope_of r.key.labels) (filter (has_point place) (family_readings fs))
  page_scopes_are n [] = refl
  page_scopes_are n (f ∷ fs) =
      map-append item_scope (placed_items place n f) (all_placed_items place (suc n) fs)
      ∙ (λ i. item_scopes_are n f (filter (has_point place) f.readings) i ++ page_scopes_are (suc n) fs i)
      ∙ sym (map-append (λ (r : Reading). scope_of r.key.labels) (filter (has_point place) f.readings) (filter (has_point place) (family_readings fs)))
      ∙ ap (map (λ (r : Reading). scope_of r.key.labels)) (sym (filter-append (has_point place) f.readings (family_readings fs)))

  marker_scopes_are : (ms : List Marker) → map item_scope (map of_marker ms) ≡ marker_scopes ms
  marker_scopes_are [] = refl
  marker_scopes_are (m ∷ ms) = ap (λ l. scope_of m.key.labels ∷ l) (marker_scopes_are ms)

  scopes_are : (page : PageValue) (ms : List Marker) → item_scopes (all_placed_items place 0 page.families ++ map of_marker ms) ≡ scopes_in place ms page
  scopes_are page ms = ap (λ l. first_of_each scope_eq (bridge_scope ∷ l))
      (map-append item_scope (all_placed_items place 0 page.families) (map of_marker ms) ∙ (λ i. page_scopes_are 0 page.families i ++ marker_scopes_are ms i))

  each_part : (page : PageValue) (ms : List Marker) (ss : List Scope) → AllByRecursion AreAlike page.families
      → flat_map (λ s. scope_of_part place (items_in_scope (all_placed_items place 0 page.families ++ map of_marker ms) s)) ss ≡ flat_map (scope_metrics place ms page) ss
  each_part page ms [] alike = refl
  each_part page ms (s ∷ ss) alike = λ i.
      part_scope_is page ms s (items_in_scope (all_placed_items place 0 page.families ++ map of_marker ms) s) alike (part_is place page.families ms s) i ++ each_part page ms ss alike i

  scopes_of_parts_are : (page : PageValue) (ms : List Marker) → AllByRecursion AreAlike page.families
      → flat_map (scope_of_part place) (items_by_scope (all_placed_items place 0 page.families ++ map of_marker ms)) ≡ series_scopes place ms page
  unfolding items_by_scope series_scopes
  scopes_of_parts_are page ms alike =
      let items : List Item = all_placed_items place 0 page.families ++ map of_marker ms in
      flat_map-map (scope_of_part place) (items_in_scope items) (item_scopes items)
      ∙ each_part page ms (item_scopes items) alike
      ∙ ap (flat_map (scope_metrics place ms page)) (scopes_are page ms)

  have_places : (fs : List Family) (ms : List Marker) (ss : List Scope) → AllByRecursion (HasOwnPlaces place) (map (items_in_scope (all_placed_items place 0 fs ++ map of_marker ms)) ss)
  have_places fs ms [] = tt
  have_places fs ms (s ∷ ss) = ((part_is place fs ms s).places_are, have_places fs ms ss)

  parts_have_places : (fs : List Family) (ms : List Marker) → AllByRecursion (HasOwnPlaces place) (items_by_scope (all_placed_items place 0 fs ++ map of_marker ms))
  unfolding items_by_scope
  parts_have_places fs ms = have_places fs ms (item_scopes (all_placed_items place 0 fs ++ map of_marker ms))

  -- one part more, and its scope
  pub next_part : (left later : List OfScope) (part : OfScope) (scopes more all : List ScopeMetrics) → left ≡ part ∷ later → AllByRecursion (HasOwnPlaces place) left
      → (HasOwnPlaces place part → more ≡ scopes ++ scope_of_part place part) → scopes ++ flat_map (scope_of_part place) left ≡ all
      → AllByRecursion (HasOwnPlaces place) later × (more ++ flat_map (scope_of_part place) later ≡ all)
  next_part left later part scopes more all e have put is =
      let both : AllByRecursion (HasOwnPlaces place) (part ∷ later) = subst (AllByRecursion (HasOwnPlaces place)) e have in (
        both.1,
        ap (λ l. l ++ flat_map (scope_of_part place) later) (put both.0) ∙ append_assoc scopes (scope_of_part place part) (flat_map (scope_of_part place) later)
            ∙ ap (λ l. scopes ++ flat_map (scope_of_part place) l) (sym e) ∙ is,
      )

  -- the parts of families whose readings are alike
  pub scopes_from_parts : (fs : List Family) (ms : List Marker) (parts : List OfScope) → AllByRecursion AreAlike fs → parts ≡ items_by_scope (all_placed_items place 0 fs ++ map of_marker ms)
      → AllByRecursion (HasOwnPlaces place) parts × (flat_map (scope_of_part place) parts ≡ series_scopes place ms (families_page fs))
  scopes_from_parts fs ms parts alike are = (
    subst (AllByRecursion (HasOwnPlaces place)) (sym are) (parts_have_places fs ms),
    ap (flat_map (scope_of_part place)) are ∙ scopes_of_parts_are (families_page fs) ms alike,
  )
