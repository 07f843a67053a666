-- The metrics of an event with their kinds: no two are of one name, kind and unit.
use Rattle.std.proofs.Common.{◌≡◌, ℕ, true, false, not, ◌&&◌, List, [], ◌∷◌, ◌++◌, map, filter, filter_map, codes, Option, Some, None, option_map, refl, sym, ap, subst, ◌∙◌}
use Rattle.std.specs.List.{IsDistinct, AllByRecursion, list_any, cons_option}
use Rattle.std.specs.Str.{bytes_eq}
use Rattle.std.proofs.lemmas.Bool.{or_parts, not-true}
use Rattle.std.proofs.lemmas.List.{map-append}
use Rattle.std.proofs.lemmas.Simd.{map-map}
use Rattle.label_sets.specs.declared.kind.Kind.{Kind}
use Rattle.label_sets.specs.declared.kind.Kind.TheVariants.{Gauge}
use Rattle.label_sets.specs.declared.series_key.SeriesKey.{SeriesKey}
use Rattle.label_sets.specs.Keys.{kind_eq, identity_eq}
use Rattle.label_sets.specs.Lists.{first_of_each}
use Rattle.label_sets.proofs.Laws.{all-weaker, all-append, all-filter, filter-passes}
use Rattle.otlp_tree.specs.declared.tree.Metric.{Metric}
use Rattle.start_times.specs.Starts.{has_points}
use Rattle.family_metrics.specs.Markers.{metric_with, with_markers, markers_left, shape_with, no_points, marker_metrics}
use Rattle.target_core.specs.Trees.{target_gauge, target_metrics}
use Rattle.target_core.specs.Events.{marker_with}
use Rattle.family_metrics.specs.Laws.{is_same_metric}
use Rattle.point_laws.specs.MarkerLaws.{sort_of, AreDistinctMetrics, target_series}
use Rattle.point_laws.proofs.Parts.{distinct-append, firsts-distinct, all-firsts, is_of_some, of_none}
use Rattle.point_laws.proofs.GonePoints.{IsValued, is_in, sort_kept, own_markers, left_markers, alone, IsAlone, alone_metric, alone_metrics}

-- what holds of each of two lists holds of both, one behind the other; and images have what they are made for
each_image : {A B : Type 0} (P : A → Type 0) (Q : B → Type 0) (f : A → B) → ((a : A) → P a → Q (f a)) → (xs : List A) → AllByRecursion P xs → AllByRecursion Q (map f xs)
each_image P Q f gives [] h = tt
each_image P Q f gives (x ∷ xs) h = (gives x h.0, each_image P Q f gives xs h.1)

-- ---- metrics of markers alone

module _ (start : SeriesKey → Option ℕ) (moment : ℕ) (keys : List SeriesKey) where
  -- such a metric with the kind of its series
  abbrev pub kinded_alone : SeriesKey → Option (Kind × Metric)
  kinded_alone first = option_map (λ (m : Metric). (first.kind, m)) (alone start moment keys first)

  -- what holds of each of these metrics, by what holds of its series
  each_alone : (P : Kind × Metric → Type 0) (Q : SeriesKey → Type 0) → ((key : SeriesKey) (m : Metric) → IsAlone start moment keys key m → Q key → P (key.kind, m))
      → (firsts : List SeriesKey) → AllByRecursion (λ (key : SeriesKey). has_points key.kind ≡ true) firsts → AllByRecursion Q firsts → AllByRecursion P (filter_map kinded_alone firsts)
  each_alone P Q gives [] points h = tt
  each_alone P Q gives (first ∷ firsts) points h =
      let own = alone_metric start moment keys first points.0 in
      let all : AllByRecursion P (cons_option (Some (first.kind, own.0)) (filter_map kinded_alone firsts)) = (gives first own.0 own.2 h.0, each_alone P Q gives firsts points.1 h.1) in
      subst (λ (o : Option (Kind × Metric)). AllByRecursion P (cons_option o (filter_map kinded_alone firsts))) (sym (ap (option_map (λ (m : Metric). (first.kind, m))) own.1)) all

  pub alone_apart : (firsts : List SeriesKey) → AllByRecursion (λ (key : SeriesKey). has_points key.kind ≡ true) firsts → IsDistinct identity_eq firsts → IsDistinct is_same_metric (filter_map kinded_alone firsts)
  unfolding IsDistinct
  alone_apart [] points differ = tt
  alone_apart (first ∷ firsts) points differ =
      let own = alone_metric start moment keys first points.0 in
      let others : AllByRecursion (λ (q : Kind × Metric). is_same_metric (first.kind, own.0) q ≡ false) (filter_map kinded_alone firsts) =
      each_alone (λ (q : Kind × Metric). is_same_metric (first.kind, own.0) q ≡ false) (λ (key : SeriesKey). identity_eq first key ≡ false)
      (λ key m is apart. (λ i. bytes_eq (own.2.name_is i) (is.name_is i) && kind_eq first.kind key.kind && bytes_eq (own.2.unit_is i) (is.unit_is i)) ∙ apart) firsts points.1 differ.0 in
      let all : IsDistinct is_same_metric (cons_option (Some (first.kind, own.0)) (filter_map kinded_alone firsts)) = (others, alone_apart firsts points.1 differ.1) in
      subst (λ (o : Option (Kind × Metric)). IsDistinct is_same_metric (cons_option o (filter_map kinded_alone firsts))) (sym (ap (option_map (λ (m : Metric). (first.kind, m))) own.1)) all

  pub alone_sorts : (firsts : List SeriesKey) → AllByRecursion (λ (key : SeriesKey). has_points key.kind ≡ true) firsts → AllByRecursion (λ (p : Kind × Metric). no_points p.0 ≡ Some (sort_of p.1.shape)) (filter_map kinded_alone firsts)
  alone_sorts firsts points = each_alone (λ (p : Kind × Metric). no_points p.0 ≡ Some (sort_of p.1.shape)) (λ (key : SeriesKey). has_points key.kind ≡ true) (λ key m is h. is.sort_is) firsts points points

  pub alone_belong : (series firsts : List SeriesKey) → AllByRecursion (λ (key : SeriesKey). has_points key.kind ≡ true) firsts → AllByRecursion (λ (key : SeriesKey). list_any (λ x. identity_eq key x) series ≡ true) firsts
      → AllByRecursion (λ (p : Kind × Metric). list_any (is_in p) series ≡ true) (filter_map kinded_alone firsts)
  alone_belong series firsts points among = each_alone (λ (p : Kind × Metric). list_any (is_in p) series ≡ true) (λ (key : SeriesKey). list_any (λ x. identity_eq key x) series ≡ true)
      (λ key m is h. (λ i. list_any (λ (x : SeriesKey). bytes_eq (is.name_is i) x.name && kind_eq key.kind x.kind && bytes_eq (is.unit_is i) x.unit) series) ∙ h) firsts points among

  -- without their kinds
  pub without_kinds : (firsts : List SeriesKey) → map (λ (p : Kind × Metric). p.1) (filter_map kinded_alone firsts) ≡ filter_map (alone start moment keys) firsts
  without_kinds [] = refl
  without_kinds (first ∷ firsts) = by (alone start moment keys first) (without_kinds firsts)
    where
      by : (o : Option Metric) → map (λ (p : Kind × Metric). p.1) (filter_map kinded_alone firsts) ≡ filter_map (alone start moment keys) firsts
          → map (λ (p : Kind × Metric). p.1) (cons_option (option_map (λ (m : Metric). (first.kind, m)) o) (filter_map kinded_alone firsts)) ≡ cons_option o (filter_map (alone start moment keys) firsts)
      by None rest = rest
      by (Some m) rest = ap (λ ms. m ∷ ms) rest

-- ---- the metrics of the page

module _ (start : SeriesKey → Option ℕ) (moment : ℕ) (keys : List SeriesKey) where
  -- a metric of the page with its markers
  abbrev pub marked_pair : Kind × Metric → Kind × Metric
  marked_pair p = (p.0, with_markers (map (marker_with start moment) keys) p.0 p.1)

  pub page_apart : (ps : List (Kind × Metric)) → IsDistinct is_same_metric ps → IsDistinct is_same_metric (map marked_pair ps)
  unfolding IsDistinct metric_with
  page_apart [] differ = tt
  page_apart (p ∷ ps) differ = (others ps differ.0, page_apart ps differ.1)
    where
      others : (qs : List (Kind × Metric)) → AllByRecursion (λ (q : Kind × Metric). is_same_metric p q ≡ false) qs → AllByRecursion (λ (q : Kind × Metric). is_same_metric (marked_pair p) q ≡ false) (map marked_pair qs)
      others [] h = tt
      others (q ∷ qs) h = (h.0, others qs h.1)

  pub page_sorts : (ps : List (Kind × Metric)) → AllByRecursion IsValued ps → AllByRecursion (λ (p : Kind × Metric). no_points p.0 ≡ Some (sort_of p.1.shape)) (map marked_pair ps)
  unfolding metric_with
  page_sorts ps own = each_image IsValued (λ (p : Kind × Metric). no_points p.0 ≡ Some (sort_of p.1.shape)) marked_pair one ps own
    where
      one : (p : Kind × Metric) → IsValued p → no_points p.0 ≡ Some (sort_of (marked_pair p).1.shape)
      one p valued = valued.sort ∙ ap Some (sym (ap (λ ms. sort_of (shape_with ms p.1.shape)) (own_markers start moment keys p) ∙ sort_kept start moment (filter (is_in p) keys) p.1.shape))

  pub page_belong : (series : List SeriesKey) (ps : List (Kind × Metric)) → AllByRecursion (λ (p : Kind × Metric). list_any (is_in p) series ≡ true) ps → AllByRecursion (λ (p : Kind × Metric). list_any (is_in p) series ≡ true) (map marked_pair ps)
  unfolding metric_with
  page_belong series [] h = tt
  page_belong series (p ∷ ps) h = (h.0, page_belong series ps h.1)

  -- ---- both

  apart_from_alone : (left firsts : List SeriesKey) → AllByRecursion (λ (key : SeriesKey). has_points key.kind ≡ true) firsts → (ps : List (Kind × Metric)) → AllByRecursion (λ (key : SeriesKey). is_of_some is_in ps key ≡ false) firsts
      → AllByRecursion (λ (x : Kind × Metric). AllByRecursion (λ (y : Kind × Metric). is_same_metric x y ≡ false) (filter_map (kinded_alone start moment left) firsts)) (map marked_pair ps)
  unfolding metric_with
  apart_from_alone left firsts points [] none = tt
  apart_from_alone left firsts points (p ∷ ps) none =
      let here : AllByRecursion (λ (key : SeriesKey). is_in p key ≡ false) firsts =
      all-weaker (λ (key : SeriesKey). is_of_some is_in (p ∷ ps) key ≡ false) (λ (key : SeriesKey). is_in p key ≡ false) (λ key h. (or_parts (is_in p key) (is_of_some is_in ps key) h).0) firsts none in
      let later : AllByRecursion (λ (key : SeriesKey). is_of_some is_in ps key ≡ false) firsts =
      all-weaker (λ (key : SeriesKey). is_of_some is_in (p ∷ ps) key ≡ false) (λ (key : SeriesKey). is_of_some is_in ps key ≡ false) (λ key h. (or_parts (is_in p key) (is_of_some is_in ps key) h).1) firsts none in (
        each_alone start moment left (λ (y : Kind × Metric). is_same_metric (marked_pair p) y ≡ false) (λ (key : SeriesKey). is_in p key ≡ false)
            (λ key m is h. (λ i. bytes_eq p.1.name (is.name_is i) && kind_eq p.0 key.kind && bytes_eq p.1.unit (is.unit_is i)) ∙ h) firsts points here,
        apart_from_alone left firsts points ps later,
      )

  -- the metrics of an event are distinct where those of its page are
  pub distinct_metrics : (series : List SeriesKey) (ps : List (Kind × Metric)) → IsDistinct is_same_metric ps → AllByRecursion IsValued ps → AllByRecursion (λ (p : Kind × Metric). list_any (is_in p) series ≡ true) ps
      → AllByRecursion (λ (key : SeriesKey). has_points key.kind ≡ true) keys → AllByRecursion (λ (key : SeriesKey). list_any (λ x. identity_eq key x) series ≡ true) keys
      → AreDistinctMetrics series (map (λ (p : Kind × Metric). with_markers (map (marker_with start moment) keys) p.0 p.1) ps ++ marker_metrics (markers_left ps (map (marker_with start moment) keys)))
  distinct_metrics series ps differ own belong points among =
      let left : List SeriesKey = of_none is_in ps keys in
      let firsts : List SeriesKey = first_of_each identity_eq left in
      let page : List (Kind × Metric) = map marked_pair ps in
      let others : List (Kind × Metric) = filter_map (kinded_alone start moment left) firsts in
      let first_points : AllByRecursion (λ (key : SeriesKey). has_points key.kind ≡ true) firsts =
      all-firsts (λ (key : SeriesKey). has_points key.kind ≡ true) identity_eq left (all-filter (λ (key : SeriesKey). has_points key.kind ≡ true) (λ key. not (is_of_some is_in ps key)) keys points) in
      let first_among : AllByRecursion (λ (key : SeriesKey). list_any (λ x. identity_eq key x) series ≡ true) firsts =
      all-firsts (λ (key : SeriesKey). list_any (λ x. identity_eq key x) series ≡ true) identity_eq left
      (all-filter (λ (key : SeriesKey). list_any (λ x. identity_eq key x) series ≡ true) (λ key. not (is_of_some is_in ps key)) keys among) in
      let none : AllByRecursion (λ (key : SeriesKey). is_of_some is_in ps key ≡ false) firsts =
      all-firsts (λ (key : SeriesKey). is_of_some is_in ps key ≡ false) identity_eq left
      (all-weaker (λ (key : SeriesKey). not (is_of_some is_in ps key) ≡ true) (λ (key : SeriesKey). is_of_some is_in ps key ≡ false) (λ key h. not-true (is_of_some is_in ps key) h) left (filter-passes (λ (key : SeriesKey). not (is_of_some is_in ps key)) keys)) in
      record {
        kinded = page ++ others;
        metrics_are = ap (λ l. map (λ (p : Kind × Metric). with_markers (map (marker_with start moment) keys) p.0 p.1) ps ++ l) (ap marker_metrics (left_markers start moment keys ps) ∙ alone_metrics start moment left)
            ∙ sym (map-append (λ (p : Kind × Metric). p.1) page others ∙ (λ i. map-map (λ (p : Kind × Metric). p.1) marked_pair ps i ++ without_kinds start moment left firsts i));
        sorts = all-append (λ (p : Kind × Metric). no_points p.0 ≡ Some (sort_of p.1.shape)) page others (page_sorts ps own) (alone_sorts start moment left firsts first_points);
        belong = all-append (λ (p : Kind × Metric). list_any (is_in p) series ≡ true) page others (page_belong series ps belong) (alone_belong start moment left series firsts first_points first_among);
        distinct = distinct-append is_same_metric page others (page_apart ps differ) (alone_apart start moment left firsts first_points (firsts-distinct identity_eq left)) (apart_from_alone left firsts first_points ps none);
      }

-- ---- the metrics of the target

pub target_distinct : (moment up samples : ℕ) → AreDistinctMetrics target_series (target_metrics moment up samples)
unfolding IsDistinct target_metrics target_gauge no_points
target_distinct moment up samples = record {
  kinded = (Gauge, target_gauge (codes "up") moment up) ∷ (Gauge, target_gauge (codes "scrape_samples_scraped") moment samples) ∷ [];
  metrics_are = refl;
  sorts = (refl, (refl, tt));
  belong = (refl, (refl, tt));
  distinct = ((refl, tt), (tt, tt));
}
