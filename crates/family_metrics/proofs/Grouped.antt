-- Markers by their metrics: one marker more, one metric of the page more, and the metrics of markers alone.
use Rattle.std.proofs.Common.{◌≡◌, ℕ, Bool, true, false, cond, not, ◌||◌, List, [], ◌∷◌, ◌++◌, map, filter, filter_map, get_or, set, Option, Some, None, option_map, refl, sym, ap, ◌∙◌}
use Rattle.std.specs.Prelude.{slice_get, MatchOption}
use Rattle.std.specs.List.{list_any, cons_option}
use Rattle.std.specs.Str.{bytes_eq}
use Rattle.std.specs.Cmp.Lexicographic.{bytes_decides, nat_list_eq_equiv}
use Rattle.std.proofs.lemmas.List.{append-nil, map-append}
use Rattle.std.proofs.lemmas.List.Elements.{filter-append}
use Rattle.std.proofs.lemmas.List.Folds.{list_any-append}
use Rattle.std.proofs.Math.Bool.{or-false, or-true}
use Rattle.byte_table.proofs.Laws.{among}
use Rattle.label_sets.specs.declared.kind.Kind.{Kind}
use Rattle.label_sets.specs.declared.series_key.SeriesKey.{SeriesKey}
use Rattle.label_sets.specs.Lists.{first_of_each}
use Rattle.otlp_tree.specs.declared.tree.Metric.{Metric}
use Rattle.family_metrics.specs.declared.markers.Marker.{Marker}
use Rattle.family_metrics.specs.Markers.{is_of_metric, markers_of, markers_left, marker_metric, marker_metrics, shape_with, no_points}
use Rattle.family_metrics.specs.MarkerGroups.{GroupedMarkers, marker_groups, first_group, with_marker, placed_group, alone_metric, identity_bytes, key_identity, group_identity}
use Rattle.family_metrics.proofs.Identities.{keys_by_bytes, metric_by_bytes}
use Rattle.family_metrics.proofs.Grouping as grouping

-- the identity of a marker as bytes
abbrev identity : Marker → List ℕ
identity m = key_identity m.key

abbrev firsts : List Marker → List Marker
firsts ms = grouping.firsts identity ms

abbrev own : Marker → List Marker → List Marker
own f ms = grouping.own identity f ms

abbrev byte_group : (SeriesKey → Bool) → List Marker → Marker → GroupedMarkers
byte_group placed ms f = record { first = f.key; markers = own f ms; placed = placed f.key }

abbrev byte_groups : (SeriesKey → Bool) → List Marker → List GroupedMarkers
byte_groups placed ms = map (byte_group placed ms) (firsts ms)

abbrev is_in : List (Kind × Metric) → SeriesKey → Bool
is_in metrics key = list_any (λ (p : Kind × Metric). is_of_metric p.0 p.1 key) metrics

groups_by_bytes : (metrics : List (Kind × Metric)) (ms : List Marker) → marker_groups metrics ms ≡ byte_groups (is_in metrics) ms
groups_by_bytes metrics ms = λ i. map (λ (f : Marker). record { first = f.key; markers = filter (λ (m : Marker). keys_by_bytes f.key m.key i) ms; placed = is_in metrics f.key }) (first_of_each (λ (a b : Marker). keys_by_bytes a.key b.key i) ms)

identities_of : (placed : SeriesKey → Bool) (ms fs : List Marker) → map group_identity (map (byte_group placed ms) fs) ≡ map identity fs
identities_of placed ms [] = refl
identities_of placed ms (f ∷ fs) = ap (λ l. identity f ∷ l) (identities_of placed ms fs)

-- ---- one marker more

own_more : (f m : Marker) (ms : List Marker) → own f (ms ++ m ∷ []) ≡ own f ms ++ cond (bytes_eq (identity f) (identity m)) (m ∷ []) []
own_more f m ms = filter-append (λ x. bytes_eq (identity f) (identity x)) ms (m ∷ [])

group_kept : (placed : SeriesKey → Bool) (ms : List Marker) (m x : Marker) → bytes_eq (identity m) (identity x) ≡ false → byte_group placed (ms ++ m ∷ []) x ≡ byte_group placed ms x
group_kept placed ms m x e = ap (λ l. record { first = x.key; markers = l; placed = placed x.key })
    (own_more x m ms ∙ ap (λ b. own x ms ++ cond b (m ∷ []) []) (nat_list_eq_equiv.symm (identity x) (identity m) ∙ e) ∙ append-nil (own x ms))

group_grown : (placed : SeriesKey → Bool) (ms : List Marker) (m x : Marker) → identity x ≡ identity m → byte_group placed (ms ++ m ∷ []) x ≡ with_marker m (byte_group placed ms x)
group_grown placed ms m x e = ap (λ l. record { first = x.key; markers = l; placed = placed x.key })
    (own_more x m ms ∙ ap (λ b. own x ms ++ cond b (m ∷ []) []) ((bytes_decides (identity x) (identity m)).1 e))

known_more : (ms : List Marker) (m : Marker) (at : ℕ) (d : GroupedMarkers) → slice_get (map identity (firsts ms)) at ≡ Some (identity m)
    → byte_groups (is_in []) (ms ++ m ∷ []) ≡ set (byte_groups (is_in []) ms) at (with_marker m (get_or (byte_groups (is_in []) ms) at d))
known_more ms m at d e =
    let there : list_any (λ x. bytes_eq (identity x) (identity m)) ms ≡ true = grouping.any_turned identity m ms ∙ sym (grouping.any_first identity (identity m) ms) ∙ among (map identity (firsts ms)) (identity m) at e in
    ap (map (byte_group (is_in []) (ms ++ m ∷ []))) (grouping.firsts-snoc identity ms m ∙ ap (λ b. cond b (firsts ms) (firsts ms ++ m ∷ [])) there)
    ∙ grouping.one_changed identity (byte_group (is_in []) ms) (byte_group (is_in []) (ms ++ m ∷ [])) (with_marker m) (identity m)
    (group_kept (is_in []) ms m) (firsts ms) at d (group_grown (is_in []) ms m) (grouping.firsts_distinct identity ms) e

new_more : (ms : List Marker) (m : Marker) → list_any (bytes_eq (identity m)) (map identity (firsts ms)) ≡ false
    → byte_groups (is_in []) (ms ++ m ∷ []) ≡ byte_groups (is_in []) ms ++ first_group m ∷ []
new_more ms m e =
    let f = byte_group (is_in []) ms in
    let g = byte_group (is_in []) (ms ++ m ∷ []) in
    let none : list_any (λ x. bytes_eq (identity m) (identity x)) ms ≡ false = sym (grouping.any_first identity (identity m) ms) ∙ e in
    let own_is : own m (ms ++ m ∷ []) ≡ m ∷ [] = own_more m m ms ∙ ap (λ b. own m ms ++ cond b (m ∷ []) []) ((bytes_decides (identity m) (identity m)).1 refl)
    ∙ ap (λ l. l ++ m ∷ []) (grouping.own_none identity (identity m) ms none) in
    ap (map g) (grouping.firsts-snoc identity ms m ∙ ap (λ b. cond b (firsts ms) (firsts ms ++ m ∷ [])) (grouping.any_turned identity m ms ∙ none))
    ∙ map-append g (firsts ms) (m ∷ [])
    ∙ ap (λ l. l ++ g m ∷ []) (grouping.none_changed identity f g (with_marker m) (identity m) (group_kept (is_in []) ms m) (firsts ms) e)
    ∙ ap (λ l. map f (firsts ms) ++ record { first = m.key; markers = l; placed = false } ∷ []) own_is

pub known_marker : (groups : List GroupedMarkers) (ms : List Marker) (m : Marker) (at : ℕ) (d : GroupedMarkers) → slice_get (map group_identity groups) at ≡ Some (key_identity m.key) → groups ≡ marker_groups [] ms
    → set groups at (with_marker m (get_or groups at d)) ≡ marker_groups [] (ms ++ m ∷ [])
known_marker groups ms m at d e is =
    let by : groups ≡ byte_groups (is_in []) ms = is ∙ groups_by_bytes [] ms in
    ap (λ l. set l at (with_marker m (get_or l at d))) by
    ∙ sym (known_more ms m at d (sym (ap (λ l. slice_get l at) (ap (map group_identity) by ∙ identities_of (is_in []) ms (firsts ms))) ∙ e))
    ∙ sym (groups_by_bytes [] (ms ++ m ∷ []))

pub new_marker : (groups : List GroupedMarkers) (ms : List Marker) (m : Marker) → list_any (bytes_eq (key_identity m.key)) (map group_identity groups) ≡ false → groups ≡ marker_groups [] ms
    → groups ++ first_group m ∷ [] ≡ marker_groups [] (ms ++ m ∷ [])
new_marker groups ms m e is =
    let by : groups ≡ byte_groups (is_in []) ms = is ∙ groups_by_bytes [] ms in
    ap (λ l. l ++ first_group m ∷ []) by
    ∙ sym (new_more ms m (sym (ap (list_any (bytes_eq (key_identity m.key))) (ap (map group_identity) by ∙ identities_of (is_in []) ms (firsts ms))) ∙ e))
    ∙ sym (groups_by_bytes [] (ms ++ m ∷ []))

-- ---- one metric of the page more

module _ (before : List (Kind × Metric)) (kind : Kind) (metric : Metric) (ms : List Marker) where
  bytes : List ℕ
  bytes = identity_bytes metric.name kind metric.unit

  after : List (Kind × Metric)
  after = before ++ (kind, metric) ∷ []

  is_in_more : (key : SeriesKey) → is_in after key ≡ (is_in before key || bytes_eq bytes (key_identity key))
  unfolding bytes after
  is_in_more key = list_any-append (λ (p : Kind × Metric). is_of_metric p.0 p.1 key) before ((kind, metric) ∷ [])
      ∙ ap (λ b. is_in before key || b) (or-false (is_of_metric kind metric key) ∙ metric_by_bytes kind metric key)

  still : (x : Marker) → bytes_eq bytes (identity x) ≡ false → byte_group (is_in after) ms x ≡ byte_group (is_in before) ms x
  still x e = ap (λ b. record { first = x.key; markers = own x ms; placed = b }) (is_in_more x.key ∙ ap (λ b. is_in before x.key || b) e ∙ or-false (is_in before x.key))

  now : (x : Marker) → identity x ≡ bytes → byte_group (is_in after) ms x ≡ placed_group (byte_group (is_in before) ms x)
  now x e = ap (λ b. record { first = x.key; markers = own x ms; placed = b }) (is_in_more x.key ∙ ap (λ b. is_in before x.key || b) ((bytes_decides bytes (identity x)).1 (sym e)) ∙ or-true (is_in before x.key))

  own_by_bytes : filter (λ (m : Marker). bytes_eq bytes (identity m)) ms ≡ markers_of kind metric ms
  unfolding bytes
  own_by_bytes = λ i. filter (λ (m : Marker). sym (metric_by_bytes kind metric m.key) i) ms

  module _ (groups : List GroupedMarkers) (is : groups ≡ marker_groups before ms) where
    by_bytes : groups ≡ byte_groups (is_in before) ms
    by_bytes = is ∙ groups_by_bytes before ms

    names : map group_identity groups ≡ map identity (firsts ms)
    names = ap (map group_identity) by_bytes ∙ identities_of (is_in before) ms (firsts ms)

    pub found_markers : (at : ℕ) (d : GroupedMarkers) → slice_get (map group_identity groups) at ≡ Some (identity_bytes metric.name kind metric.unit) → (get_or groups at d).markers ≡ markers_of kind metric ms
    unfolding bytes
    found_markers at d e = ap (λ l. (get_or l at d).markers) by_bytes
        ∙ grouping.key_at identity (byte_group (is_in before) ms) (λ (g : GroupedMarkers). g.markers ≡ markers_of kind metric ms) (firsts ms) at bytes d
        (λ x h. ap (λ b. filter (λ (m : Marker). bytes_eq b (identity m)) ms) h ∙ own_by_bytes) (sym (ap (λ l. slice_get l at) names) ∙ e)

    pub found_placed : (at : ℕ) (d : GroupedMarkers) → slice_get (map group_identity groups) at ≡ Some (identity_bytes metric.name kind metric.unit) → set groups at (placed_group (get_or groups at d)) ≡ marker_groups (before ++ (kind, metric) ∷ []) ms
    unfolding bytes after
    found_placed at d e = ap (λ l. set l at (placed_group (get_or l at d))) by_bytes
        ∙ sym (grouping.one_changed identity (byte_group (is_in before) ms) (byte_group (is_in after) ms) placed_group bytes still (firsts ms) at d now (grouping.firsts_distinct identity ms)
        (sym (ap (λ l. slice_get l at) names) ∙ e))
        ∙ sym (groups_by_bytes after ms)

    pub absent_markers : list_any (bytes_eq (identity_bytes metric.name kind metric.unit)) (map group_identity groups) ≡ false → [] ≡ markers_of kind metric ms
    unfolding bytes
    absent_markers e = sym (grouping.own_none identity bytes ms (sym (grouping.any_first identity bytes ms) ∙ sym (ap (list_any (bytes_eq bytes)) names) ∙ e)) ∙ own_by_bytes

    pub absent_placed : list_any (bytes_eq (identity_bytes metric.name kind metric.unit)) (map group_identity groups) ≡ false → groups ≡ marker_groups (before ++ (kind, metric) ∷ []) ms
    unfolding bytes after
    absent_placed e = by_bytes ∙ sym (grouping.none_changed identity (byte_group (is_in before) ms) (byte_group (is_in after) ms) placed_group bytes still (firsts ms) (sym (ap (list_any (bytes_eq bytes)) names) ∙ e))
        ∙ sym (groups_by_bytes after ms)

-- ---- the metrics of markers alone

module _ (metrics : List (Kind × Metric)) (ms : List Marker) where
  left : Marker → Bool
  left m = not (is_in metrics m.key)

  is_in_alike : (qs : List (Kind × Metric)) (x y : Marker) → identity x ≡ identity y → is_in qs x.key ≡ is_in qs y.key
  is_in_alike [] x y e = refl
  is_in_alike (p ∷ ps) x y e = ap (λ b. b || is_in ps x.key) (metric_by_bytes p.0 p.1 x.key ∙ ap (bytes_eq (identity_bytes p.1.name p.0 p.1.unit)) e ∙ sym (metric_by_bytes p.0 p.1 y.key))
      ∙ ap (λ b. is_of_metric p.0 p.1 y.key || b) (is_in_alike ps x y e)

  left_alike : (x y : Marker) → identity x ≡ identity y → left x ≡ left y
  unfolding left
  left_alike x y e = ap not (is_in_alike metrics x y e)

  of_markers : List Marker → Marker → Option Metric
  of_markers markers f = option_map (λ shape. record { name = f.key.name; description = []; unit = f.key.unit; shape = shape_with markers shape }) (no_points f.key.kind)

  each_alone : (fs : List Marker) → filter_map alone_metric (map (byte_group (is_in metrics) ms) fs) ≡ filter_map (λ f. of_markers (own f (filter left ms)) f) (filter left fs)
  unfolding alone_metric left of_markers
  each_alone [] = refl
  each_alone (f ∷ fs) = by (is_in metrics f.key) refl (each_alone fs)
    where
      by : (b : Bool) → is_in metrics f.key ≡ b → filter_map alone_metric (map (byte_group (is_in metrics) ms) fs) ≡ filter_map (λ f. of_markers (own f (filter left ms)) f) (filter left fs)
          → cons_option (alone_metric (byte_group (is_in metrics) ms f)) (filter_map alone_metric (map (byte_group (is_in metrics) ms) fs))
          ≡ filter_map (λ f. of_markers (own f (filter left ms)) f) (cond (not (is_in metrics f.key)) (f ∷ filter left fs) (filter left fs))
      by true e ih = rw e ih
      by false e ih = rw e (ap (λ l. cons_option (of_markers l f) (filter_map alone_metric (map (byte_group (is_in metrics) ms) fs))) (sym (grouping.own_filter identity left left_alike f ms (ap not e)))
          ∙ ap (cons_option (of_markers (own f (filter left ms)) f)) ih)

  pub alone_metrics : filter_map alone_metric (marker_groups metrics ms) ≡ marker_metrics (markers_left metrics ms)
  unfolding marker_metric left of_markers
  alone_metrics = ap (filter_map alone_metric) (groups_by_bytes metrics ms) ∙ each_alone (firsts ms)
      ∙ ap (filter_map (λ f. of_markers (own f (filter left ms)) f)) (sym (grouping.firsts_filter identity left left_alike ms))
      ∙ (λ i. filter_map (λ (f : Marker). of_markers (filter (λ (m : Marker). sym (keys_by_bytes f.key m.key) i) (filter left ms)) f) (first_of_each (λ (a b : Marker). sym (keys_by_bytes a.key b.key) i) (filter left ms)))

-- ---- a new identity is put in

pub put_new : (old new : List (List ℕ)) (bytes : List ℕ) (found : Option ℕ) → list_any (bytes_eq bytes) old ≡ false → MatchOption found (list_any (bytes_eq bytes) old ≡ false) (λ at. slice_get old at ≡ Some bytes)
    → MatchOption found (new ≡ old ++ bytes ∷ []) (λ at. new ≡ old) → new ≡ old ++ bytes ∷ []
put_new old new bytes None e at added = added
put_new old new bytes (Some i) e at added = absurd (let no : true ≡ false = sym (among old bytes i at) ∙ e in cc)

-- ---- a marker is put in

pub added_here : (groups : List GroupedMarkers) (ids : List (List ℕ)) (ms : List Marker) (m : Marker) (at : ℕ) (g grown : GroupedMarkers) (string : List ℕ) → string ≡ key_identity m.key
    → slice_get ids at ≡ Some string → ids ≡ map group_identity groups → groups ≡ marker_groups [] ms → g ≡ get_or groups at g → grown ≡ with_marker m g → set groups at grown ≡ marker_groups [] (ms ++ m ∷ [])
added_here groups ids ms m at g grown string b found names is here more =
    ap (set groups at) (more ∙ ap (with_marker m) here) ∙ known_marker groups ms m at g (ap (λ l. slice_get l at) (sym names) ∙ found ∙ ap Some b) is

pub first_here : (groups more : List GroupedMarkers) (ids : List (List ℕ)) (ms : List Marker) (m : Marker) (g : GroupedMarkers) (string : List ℕ) → string ≡ key_identity m.key
    → list_any (bytes_eq string) ids ≡ false → ids ≡ map group_identity groups → groups ≡ marker_groups [] ms → g ≡ first_group m → more ≡ groups ++ g ∷ [] → more ≡ marker_groups [] (ms ++ m ∷ [])
first_here groups more ids ms m g string b none names is own e =
    e ∙ ap (λ x. groups ++ x ∷ []) own ∙ new_marker groups ms m (ap (λ k. list_any (bytes_eq k) (map group_identity groups)) (sym b) ∙ ap (list_any (bytes_eq string)) (sym names) ∙ none) is
