-- The points without a value of the metrics of an event: those of the series that are gone, each in its metric.
use Rattle.std.proofs.Common.{◌≡◌, ℕ, Bool, true, not, ◌&&◌, List, [], ◌∷◌, ◌++◌, map, filter, filter_map, Option, Some, None, option_map, is_some, refl, sym, ap, subst, ◌∙◌, IfSome}
use Rattle.std.specs.List.{IsDistinct, AllByRecursion, flat_map, list_any, cons_option}
use Rattle.std.specs.List.Sorted.{IsPermutation}
use Rattle.std.specs.Str.{bytes_eq}
use Rattle.std.specs.Cmp.Lexicographic.{bytes_decides}
use Rattle.std.proofs.lemmas.Bool.{and_parts, and_from}
use Rattle.std.proofs.lemmas.Grind.{flat_map-append}
use Rattle.std.proofs.lemmas.List.{map-append, append-nil}
use Rattle.std.proofs.lemmas.List.Elements.{filter_map-append}
use Rattle.std.proofs.lemmas.List.Sorted.{IsPermutation-trans, IsPermutation-map, IsPermutation-append_right}
use Rattle.label_sets.specs.declared.kind.Kind.{Kind}
use Rattle.label_sets.specs.declared.kind.Kind.TheVariants.{Counter, Gauge, Histogram, GaugeHistogram, StateSet, Info, Summary, Unknown}
use Rattle.label_sets.specs.declared.series_key.SeriesKey.{SeriesKey}
use Rattle.label_sets.specs.Keys.{kind_eq, identity_eq}
use Rattle.label_sets.specs.Lists.{first_of_each}
use Rattle.label_sets.proofs.Laws.{kind_decides, all-weaker, all-filter, filter-passes}
use Rattle.otlp_tree.specs.declared.tree.Metric.{Metric}
use Rattle.otlp_tree.specs.declared.tree.Shape.{Shape}
use Rattle.otlp_tree.specs.declared.tree.Shape.TheVariants as shapes
use Rattle.start_times.specs.Starts.{has_points}
use Rattle.family_metrics.specs.Scopes.{point_labels}
use Rattle.family_metrics.specs.Markers.{number_marker, histogram_marker, summary_marker, shape_with, is_of_metric, markers_of, metric_with, with_markers, markers_left, no_points, marker_metric, marker_metrics}
use Rattle.target_core.specs.Events.{marker_with}
use Rattle.family_metrics.specs.Laws.{is_same_metric}
use Rattle.point_laws.specs.MarkerLaws.{UnvaluedPoint, unvalued_point, sort_of, unvalued_number, unvalued_histogram, unvalued_summary, unvalued_in_shape, unvalued_in_metric, gone_point}
use Rattle.point_laws.proofs.Parts.{filter-map, firsts-map, filter_map-map, none-left, firsts-distinct, all-firsts, each-among, any-firsts, of_groups, is_of_some, of_none, grouped}

-- ---- one metric for two series

-- one name, kind and unit
record IsOneMetric (a b : SeriesKey) : Type 0 where
  name_is : a.name ≡ b.name
  kind_is : a.kind ≡ b.kind
  unit_is : a.unit ≡ b.unit

one_metric : (a b : SeriesKey) → identity_eq a b ≡ true → IsOneMetric a b
one_metric a b e =
    let all = and_parts (bytes_eq a.name b.name && kind_eq a.kind b.kind) (bytes_eq a.unit b.unit) e in
    let two = and_parts (bytes_eq a.name b.name) (kind_eq a.kind b.kind) all.0 in
    record { name_is = (bytes_decides a.name b.name).0 two.0; kind_is = (kind_decides a.kind b.kind).0 two.1; unit_is = (bytes_decides a.unit b.unit).0 all.1 }

metric_again : (a b : SeriesKey) → IsOneMetric a b → identity_eq a b ≡ true
metric_again a b one =
    and_from (bytes_eq a.name b.name && kind_eq a.kind b.kind) (bytes_eq a.unit b.unit)
    (and_from (bytes_eq a.name b.name) (kind_eq a.kind b.kind) ((bytes_decides a.name b.name).1 one.name_is) ((kind_decides a.kind b.kind).1 one.kind_is)) ((bytes_decides a.unit b.unit).1 one.unit_is)

pub identity_itself : (a : SeriesKey) → identity_eq a a ≡ true
identity_itself a = metric_again a a (record { name_is = refl; kind_is = refl; unit_is = refl })

pub identity_then : (a b c : SeriesKey) → identity_eq a b ≡ true → identity_eq b c ≡ true → identity_eq a c ≡ true
identity_then a b c e f =
    let x = one_metric a b e in
    let y = one_metric b c f in
    metric_again a c (record { name_is = x.name_is ∙ y.name_is; kind_is = x.kind_is ∙ y.kind_is; unit_is = x.unit_is ∙ y.unit_is })

pub identity_both : (a b c : SeriesKey) → identity_eq a c ≡ true → identity_eq b c ≡ true → identity_eq a b ≡ true
identity_both a b c e f =
    let x = one_metric a c e in
    let y = one_metric b c f in
    metric_again a b (record { name_is = x.name_is ∙ sym y.name_is; kind_is = x.kind_is ∙ sym y.kind_is; unit_is = x.unit_is ∙ sym y.unit_is })

-- ---- the sorts of points

-- where a kind has points, the shape without any has none without a value, and is its own sort
empty_shape : (kind : Kind) (name unit : List ℕ) → IfSome (no_points kind) (λ (shape : Shape). (unvalued_in_shape name unit shape ≡ []) × (sort_of shape ≡ shape))
unfolding no_points
empty_shape Counter name unit = (refl, refl)
empty_shape Gauge name unit = (refl, refl)
empty_shape Histogram name unit = (refl, refl)
empty_shape GaugeHistogram name unit = tt
empty_shape StateSet name unit = (refl, refl)
empty_shape Info name unit = (refl, refl)
empty_shape Summary name unit = (refl, refl)
empty_shape Unknown name unit = (refl, refl)

pub points_there : (kind : Kind) → has_points kind ≡ true → is_some (no_points kind) ≡ true
unfolding no_points has_points
points_there Counter h = refl
points_there Gauge h = refl
points_there Histogram h = refl
points_there GaugeHistogram h = absurd cc
points_there StateSet h = refl
points_there Info h = refl
points_there Summary h = refl
points_there Unknown h = refl

-- markers behind points leave their sort
pub sort_kept : (start : SeriesKey → Option ℕ) (moment : ℕ) (keys : List SeriesKey) (shape : Shape) → sort_of (shape_with (map (marker_with start moment) keys) shape) ≡ sort_of shape
sort_kept start moment keys (shapes.Gauge points) = refl
sort_kept start moment keys (shapes.Sum points monotonic) = refl
sort_kept start moment keys (shapes.Histogram points) = refl
sort_kept start moment keys (shapes.Summary points) = refl

-- ---- markers of one metric

-- the series is of a metric of this name and unit, and its kind has this sort of points
pub record IsIn (name unit : List ℕ) (sort : Option Shape) (key : SeriesKey) : Type 0 where
  pub name_is : name ≡ key.name
  pub unit_is : unit ≡ key.unit
  pub sort_is : sort ≡ no_points key.kind

module _ (name unit : List ℕ) (sort : Option Shape) (moment : ℕ) where
  own_point : (key : SeriesKey) → IsIn name unit sort key → unvalued_point name unit sort (point_labels key.labels) moment ≡ gone_point moment key
  own_point key own = λ i. unvalued_point (own.name_is i) (own.unit_is i) (own.sort_is i) (point_labels key.labels) moment

  -- markers that have become points of a metric
  marked : {M Y : Type 0} (make : SeriesKey → M) (become : M → Y) (unvalued : Y → Option UnvaluedPoint) → ((key : SeriesKey) → unvalued (become (make key)) ≡ Some (unvalued_point name unit sort (point_labels key.labels) moment))
      → (keys : List SeriesKey) → AllByRecursion (IsIn name unit sort) keys → filter_map unvalued (map become (map make keys)) ≡ map (gone_point moment) keys
  marked make become unvalued each [] own = refl
  marked make become unvalued each (key ∷ keys) own =
      let here : unvalued (become (make key)) ≡ Some (gone_point moment key) = each key ∙ ap Some (own_point key own.0) in
      let rest : filter_map unvalued (map become (map make keys)) ≡ map (gone_point moment) keys = marked make become unvalued each keys own.1 in
      λ i. cons_option (here i) (rest i)

-- behind points with values they are all that has none
behind_points : {Y : Type 0} (unvalued : Y → Option UnvaluedPoint) (points more : List Y) (all : List UnvaluedPoint) → filter_map unvalued points ≡ [] → filter_map unvalued more ≡ all → filter_map unvalued (points ++ more) ≡ all
behind_points unvalued points more all none some = filter_map-append unvalued points more ∙ (λ i. none i ++ some i)

marked_shape : (start : SeriesKey → Option ℕ) (moment : ℕ) (name unit : List ℕ) (keys : List SeriesKey) (shape : Shape) → unvalued_in_shape name unit shape ≡ [] → AllByRecursion (IsIn name unit (Some (sort_of shape))) keys
    → unvalued_in_shape name unit (shape_with (map (marker_with start moment) keys) shape) ≡ map (gone_point moment) keys
unfolding number_marker histogram_marker summary_marker marker_with
marked_shape start moment name unit keys (shapes.Gauge points) none own =
    behind_points (unvalued_number name unit (Some (shapes.Gauge []))) points (map number_marker (map (marker_with start moment) keys)) (map (gone_point moment) keys) none
    (marked name unit (Some (shapes.Gauge [])) moment (marker_with start moment) number_marker (unvalued_number name unit (Some (shapes.Gauge []))) (λ key. refl) keys own)
marked_shape start moment name unit keys (shapes.Sum points monotonic) none own =
    behind_points (unvalued_number name unit (Some (shapes.Sum [] monotonic))) points (map number_marker (map (marker_with start moment) keys)) (map (gone_point moment) keys) none
    (marked name unit (Some (shapes.Sum [] monotonic)) moment (marker_with start moment) number_marker (unvalued_number name unit (Some (shapes.Sum [] monotonic))) (λ key. refl) keys own)
marked_shape start moment name unit keys (shapes.Histogram points) none own =
    behind_points (unvalued_histogram name unit (Some (shapes.Histogram []))) points (map histogram_marker (map (marker_with start moment) keys)) (map (gone_point moment) keys) none
    (marked name unit (Some (shapes.Histogram [])) moment (marker_with start moment) histogram_marker (unvalued_histogram name unit (Some (shapes.Histogram []))) (λ key. refl) keys own)
marked_shape start moment name unit keys (shapes.Summary points) none own =
    behind_points (unvalued_summary name unit (Some (shapes.Summary []))) points (map summary_marker (map (marker_with start moment) keys)) (map (gone_point moment) keys) none
    (marked name unit (Some (shapes.Summary [])) moment (marker_with start moment) summary_marker (unvalued_summary name unit (Some (shapes.Summary []))) (λ key. refl) keys own)

-- ---- the metrics of the page

-- a metric of the page: its points are of its kind and have values
pub record IsValued (p : Kind × Metric) : Type 0 where
  pub sort : no_points p.0 ≡ Some (sort_of p.1.shape)
  pub valued : unvalued_in_metric p.1 ≡ []

-- the series is of the metric
abbrev pub is_in : Kind × Metric → SeriesKey → Bool
is_in p key = is_of_metric p.0 p.1 key

in_metric : (p : Kind × Metric) (key : SeriesKey) → no_points p.0 ≡ Some (sort_of p.1.shape) → is_in p key ≡ true → IsIn p.1.name p.1.unit (Some (sort_of p.1.shape)) key
in_metric p key sort e =
    let all = and_parts (bytes_eq p.1.name key.name && kind_eq p.0 key.kind) (bytes_eq p.1.unit key.unit) e in
    let two = and_parts (bytes_eq p.1.name key.name) (kind_eq p.0 key.kind) all.0 in
    record { name_is = (bytes_decides p.1.name key.name).0 two.0; unit_is = (bytes_decides p.1.unit key.unit).0 all.1; sort_is = sym sort ∙ ap no_points ((kind_decides p.0 key.kind).0 two.1) }

-- metrics with one series are one
pub same_metric : (p q : Kind × Metric) (key : SeriesKey) → is_in p key ≡ true → is_in q key ≡ true → is_same_metric p q ≡ true
same_metric p q key e f =
    let a = and_parts (bytes_eq p.1.name key.name && kind_eq p.0 key.kind) (bytes_eq p.1.unit key.unit) e in
    let b = and_parts (bytes_eq p.1.name key.name) (kind_eq p.0 key.kind) a.0 in
    let c = and_parts (bytes_eq q.1.name key.name && kind_eq q.0 key.kind) (bytes_eq q.1.unit key.unit) f in
    let d = and_parts (bytes_eq q.1.name key.name) (kind_eq q.0 key.kind) c.0 in
    and_from (bytes_eq p.1.name q.1.name && kind_eq p.0 q.0) (bytes_eq p.1.unit q.1.unit)
    (and_from (bytes_eq p.1.name q.1.name) (kind_eq p.0 q.0)
    ((bytes_decides p.1.name q.1.name).1 ((bytes_decides p.1.name key.name).0 b.0 ∙ sym ((bytes_decides q.1.name key.name).0 d.0)))
    ((kind_decides p.0 q.0).1 ((kind_decides p.0 key.kind).0 b.1 ∙ sym ((kind_decides q.0 key.kind).0 d.1))))
    ((bytes_decides p.1.unit q.1.unit).1 ((bytes_decides p.1.unit key.unit).0 a.1 ∙ sym ((bytes_decides q.1.unit key.unit).0 c.1)))

all_in : (p : Kind × Metric) (keys : List SeriesKey) → IsValued p → AllByRecursion (IsIn p.1.name p.1.unit (Some (sort_of p.1.shape))) (filter (is_in p) keys)
all_in p keys own = all-weaker (λ key. is_in p key ≡ true) (IsIn p.1.name p.1.unit (Some (sort_of p.1.shape))) (λ key e. in_metric p key own.sort e) (filter (is_in p) keys) (filter-passes (is_in p) keys)

module _ (start : SeriesKey → Option ℕ) (moment : ℕ) (keys : List SeriesKey) where
  pub own_markers : (p : Kind × Metric) → markers_of p.0 p.1 (map (marker_with start moment) keys) ≡ map (marker_with start moment) (filter (is_in p) keys)
  unfolding marker_with
  own_markers p = filter-map (marker_with start moment) (λ m. is_of_metric p.0 p.1 m.key) keys

  marked_metric : (p : Kind × Metric) → IsValued p → unvalued_in_metric (with_markers (map (marker_with start moment) keys) p.0 p.1) ≡ map (gone_point moment) (filter (is_in p) keys)
  unfolding metric_with
  marked_metric p own =
      ap (λ ms. unvalued_in_shape p.1.name p.1.unit (shape_with ms p.1.shape)) (own_markers p)
      ∙ marked_shape start moment p.1.name p.1.unit (filter (is_in p) keys) p.1.shape own.valued (all_in p keys own)

  pub marked_page : (ps : List (Kind × Metric)) → AllByRecursion IsValued ps
      → flat_map unvalued_in_metric (map (λ (p : Kind × Metric). with_markers (map (marker_with start moment) keys) p.0 p.1) ps) ≡ map (gone_point moment) (of_groups is_in ps keys)
  marked_page [] own = refl
  marked_page (p ∷ ps) own =
      let here = marked_metric p own.0 in
      let rest = marked_page ps own.1 in
      (λ i. here i ++ rest i) ∙ sym (map-append (gone_point moment) (filter (is_in p) keys) (of_groups is_in ps keys))

  -- the markers of no metric of the page
  pub left_markers : (ps : List (Kind × Metric)) → markers_left ps (map (marker_with start moment) keys) ≡ map (marker_with start moment) (of_none is_in ps keys)
  unfolding marker_with
  left_markers ps = filter-map (marker_with start moment) (λ m. not (list_any (λ (p : Kind × Metric). is_of_metric p.0 p.1 m.key) ps)) keys

-- ---- the metrics of markers alone

module _ (start : SeriesKey → Option ℕ) (moment : ℕ) (keys : List SeriesKey) where
  -- the metric of the markers that are of one metric with this one
  abbrev pub alone : SeriesKey → Option Metric
  alone first = marker_metric (map (marker_with start moment) keys) (marker_with start moment first)

  -- the same, made of these points
  abbrev alone_with : SeriesKey → Shape → Metric
  alone_with first shape = record { name = first.name; description = []; unit = first.unit; shape = shape_with (map (marker_with start moment) (filter (identity_eq first) keys)) shape }

  alone_is : (first : SeriesKey) → alone first ≡ option_map (alone_with first) (no_points first.kind)
  unfolding marker_metric marker_with
  alone_is first = ap (λ ms. option_map (λ shape. record { name = first.name; description = []; unit = first.unit; shape = shape_with ms shape }) (no_points first.kind)) (filter-map (marker_with start moment) (λ m. identity_eq first m.key) keys)

  own_alone : (first : SeriesKey) (shape : Shape) → no_points first.kind ≡ Some shape → sort_of shape ≡ shape → AllByRecursion (IsIn first.name first.unit (Some (sort_of shape))) (filter (identity_eq first) keys)
  own_alone first shape there sort = all-weaker (λ key. identity_eq first key ≡ true) (IsIn first.name first.unit (Some (sort_of shape))) each (filter (identity_eq first) keys) (filter-passes (identity_eq first) keys)
    where
      each : (key : SeriesKey) → identity_eq first key ≡ true → IsIn first.name first.unit (Some (sort_of shape)) key
      each key e = let one = one_metric first key e in record { name_is = one.name_is; unit_is = one.unit_is; sort_is = ap Some sort ∙ sym there ∙ ap no_points one.kind_is }

  -- what such a metric is
  pub record IsAlone (first : SeriesKey) (m : Metric) : Type 0 where
    pub name_is : m.name ≡ first.name
    pub unit_is : m.unit ≡ first.unit
    pub sort_is : no_points first.kind ≡ Some (sort_of m.shape)
    pub points_are : unvalued_in_metric m ≡ map (gone_point moment) (filter (identity_eq first) keys)

  pub alone_metric : (first : SeriesKey) → has_points first.kind ≡ true → (m : Metric) × (alone first ≡ Some m) × IsAlone first m
  alone_metric first points = go (no_points first.kind) refl (points_there first.kind points) (empty_shape first.kind first.name first.unit)
    where
      go : (o : Option Shape) → no_points first.kind ≡ o → is_some o ≡ true → IfSome o (λ (shape : Shape). (unvalued_in_shape first.name first.unit shape ≡ []) × (sort_of shape ≡ shape))
          → (m : Metric) × (alone first ≡ Some m) × IsAlone first m
      go None e some empty = absurd cc
      go (Some shape) e some empty = (
        alone_with first shape,
        alone_is first ∙ ap (option_map (alone_with first)) e,
        record {
          name_is = refl;
          unit_is = refl;
          sort_is = e ∙ ap Some (sym (sort_kept start moment (filter (identity_eq first) keys) shape ∙ empty.1));
          points_are = marked_shape start moment first.name first.unit (filter (identity_eq first) keys) shape empty.0 (own_alone first shape e empty.1);
        },
      )

  -- all of them, one for each of these series
  pub marked_alone : (firsts : List SeriesKey) → AllByRecursion (λ (key : SeriesKey). has_points key.kind ≡ true) firsts
      → flat_map unvalued_in_metric (filter_map alone firsts) ≡ map (gone_point moment) (of_groups identity_eq firsts keys)
  marked_alone [] points = refl
  marked_alone (first ∷ firsts) points =
      let own = alone_metric first points.0 in
      let rest = marked_alone firsts points.1 in
      ap (λ (o : Option Metric). flat_map unvalued_in_metric (cons_option o (filter_map alone firsts))) own.1
      ∙ (λ i. own.2.points_are i ++ rest i) ∙ sym (map-append (gone_point moment) (filter (identity_eq first) keys) (of_groups identity_eq firsts keys))

  -- these are the metrics of markers alone
  pub alone_metrics : marker_metrics (map (marker_with start moment) keys) ≡ filter_map alone (first_of_each identity_eq keys)
  unfolding marker_with
  alone_metrics =
      ap (filter_map (marker_metric (map (marker_with start moment) keys))) (firsts-map (marker_with start moment) (λ a b. identity_eq a.key b.key) keys)
      ∙ filter_map-map (marker_with start moment) (marker_metric (map (marker_with start moment) keys)) (first_of_each identity_eq keys)

  -- each of the series is of one metric with the first of them that is
  pub all_alone : IsPermutation keys (of_groups identity_eq (first_of_each identity_eq keys) keys)
  all_alone =
      let firsts : List SeriesKey = first_of_each identity_eq keys in
      let all = grouped identity_eq identity_eq (λ g h x. identity_both g h x) firsts (firsts-distinct identity_eq keys) keys in
      let none : of_none identity_eq firsts keys ≡ [] = none-left (is_of_some identity_eq firsts) keys
      (all-weaker (λ key. list_any (λ x. identity_eq x key) keys ≡ true) (λ key. is_of_some identity_eq firsts key ≡ true) (λ key h. any-firsts identity_eq identity_then key keys ∙ h) keys (each-among identity_eq identity_itself keys)) in
      subst (IsPermutation keys) (ap (λ l. of_groups identity_eq firsts keys ++ l) none ∙ append-nil (of_groups identity_eq firsts keys)) all

-- ---- both

module _ (start : SeriesKey → Option ℕ) (moment : ℕ) (keys : List SeriesKey) (ps : List (Kind × Metric)) where
  -- the points without a value of the metrics of the page, and of those of markers alone, are those of the series, in some order
  pub all_marked : (apart : IsDistinct is_same_metric ps) → AllByRecursion IsValued ps → AllByRecursion (λ (key : SeriesKey). has_points key.kind ≡ true) keys
      → IsPermutation (map (gone_point moment) keys) (flat_map unvalued_in_metric (map (λ (p : Kind × Metric). with_markers (map (marker_with start moment) keys) p.0 p.1) ps ++ marker_metrics (markers_left ps (map (marker_with start moment) keys))))
  all_marked apart own points =
      let left : List SeriesKey = of_none is_in ps keys in
      let firsts : List SeriesKey = first_of_each identity_eq left in
      let placed : List SeriesKey = of_groups is_in ps keys in
      let parts : IsPermutation keys (placed ++ left) = grouped is_in is_same_metric (λ p q key. same_metric p q key) ps apart keys in
      let alone_too : IsPermutation (placed ++ left) (placed ++ of_groups identity_eq firsts left) = IsPermutation-append_right placed left (of_groups identity_eq firsts left) (all_alone start moment left) in
      let all : IsPermutation keys (placed ++ of_groups identity_eq firsts left) = IsPermutation-trans keys (placed ++ left) (placed ++ of_groups identity_eq firsts left) parts alone_too in
      let left_points : AllByRecursion (λ (key : SeriesKey). has_points key.kind ≡ true) firsts =
      all-firsts (λ (key : SeriesKey). has_points key.kind ≡ true) identity_eq left (all-filter (λ (key : SeriesKey). has_points key.kind ≡ true) (λ key. not (is_of_some is_in ps key)) keys points) in
      let told : flat_map unvalued_in_metric (map (λ (p : Kind × Metric). with_markers (map (marker_with start moment) keys) p.0 p.1) ps ++ marker_metrics (markers_left ps (map (marker_with start moment) keys)))
      ≡ map (gone_point moment) (placed ++ of_groups identity_eq firsts left) =
      ap (λ l. flat_map unvalued_in_metric (map (λ (p : Kind × Metric). with_markers (map (marker_with start moment) keys) p.0 p.1) ps ++ l)) (ap marker_metrics (left_markers start moment keys ps) ∙ alone_metrics start moment left)
      ∙ flat_map-append unvalued_in_metric (map (λ (p : Kind × Metric). with_markers (map (marker_with start moment) keys) p.0 p.1) ps) (filter_map (alone start moment left) firsts)
      ∙ (λ i. marked_page start moment keys ps own i ++ marked_alone start moment left firsts left_points i)
      ∙ sym (map-append (gone_point moment) placed (of_groups identity_eq firsts left)) in
      subst (IsPermutation (map (gone_point moment) keys)) (sym told) (IsPermutation-map (gone_point moment) keys (placed ++ of_groups identity_eq firsts left) all)
