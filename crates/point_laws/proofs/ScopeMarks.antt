-- The scopes of a right page and of series that are gone: they mark each of these once, no scope stands twice, and no metric twice in a scope.
use Rattle.std.proofs.Common.{◌≡◌, ℕ, Bool, true, false, cond, List, [], ◌∷◌, ◌++◌, map, filter, Option, refl, sym, ap, subst, ◌∙◌}
use Rattle.std.specs.List.{IsDistinct, AllByRecursion, flat_map, list_any}
use Rattle.std.specs.List.Sorted.{IsPermutation}
use Rattle.std.proofs.lemmas.Bool.{or_left, or_right}
use Rattle.std.proofs.lemmas.Grind.{flat_map-append}
use Rattle.std.proofs.lemmas.List.{append-nil, map-append}
use Rattle.std.proofs.lemmas.List.Elements.{recursion_from_All, filter-append}
use Rattle.std.proofs.lemmas.List.Folds.{list_any-append}
use Rattle.std.proofs.lemmas.List.Sorted.{IsPermutation-refl, IsPermutation-trans, IsPermutation-map, IsPermutation-append}
use Rattle.label_sets.specs.declared.kind.Kind.{Kind}
use Rattle.label_sets.specs.declared.series_key.SeriesKey.{SeriesKey}
use Rattle.label_sets.specs.Keys.{identity_eq}
use Rattle.label_sets.proofs.Laws.{all-weaker, all-append, all-filter, filter-passes}
use Rattle.page_model.specs.declared.page.Reading.{Reading}
use Rattle.page_model.specs.declared.page.Page.{Page}
use Rattle.page_model.specs.Pages.{IsRightPage}
use Rattle.page_model.specs.Presence.{keys_of}
use Rattle.open_writing.specs.Forms.{IsFormedFamily, AreFormed}
use Rattle.writing_laws.proofs.Laws.{read_pages}
use Rattle.otlp_tree.specs.declared.tree.ScopeMetrics.{ScopeMetrics}
use Rattle.otlp_tree.specs.declared.tree.Metric.{Metric}
use Rattle.start_times.specs.declared.row.Placed.{Placed}
use Rattle.start_times.specs.Starts.{has_points}
use Rattle.family_metrics.specs.Scopes.{Scope, scope_eq, scope_of, target_scope}
use Rattle.target_pages.specs.Thinned.{page_where}
use Rattle.family_metrics.specs.Metrics.{page_metrics, event_metrics}
use Rattle.scope_metrics.specs.PageScopes.{scope_with, is_in_scope, is_marked_in, series_scopes}
use Rattle.target_core.specs.Events.{marker_with}
use Rattle.family_metrics.specs.Laws.{is_same_metric}
use Rattle.point_laws.specs.MarkerLaws.{point_in_scope, scope_named, unvalued_in_metric, unvalued_in_scope, gone_point, gone_in_scope, AreDistinctMetrics, is_key_in, series_of_scope, target_series, is_same_scope}
use Rattle.point_laws.proofs.Parts.{filter-map, each-among, grouped, none-left, of_groups, of_none, is_of_some}
use Rattle.point_laws.proofs.GonePoints.{IsValued, is_in, identity_itself, all_marked}
use Rattle.point_laws.proofs.PageMetrics.{metrics_apart, all_are_valued, all_belong}
use Rattle.point_laws.proofs.KindedMetrics.{distinct_metrics}
use Rattle.point_laws.proofs.RightSeries.{right_with, scope_keys}
use Rattle.point_laws.proofs.ScopeNames.{same_scope, scope_both, scopes, scopes_differ, keys_scoped, none_is_target}

-- ---- the metrics of a right page and of markers

-- they mark the series that are gone, and none of them stands twice
pub record AreMarked (moment : ℕ) (series gone : List SeriesKey) (metrics : List Metric) : Type 0 where
  pub points : IsPermutation (map (gone_point moment) gone) (flat_map unvalued_in_metric metrics)
  pub distinct : AreDistinctMetrics series metrics

in_page : (p : Kind × Metric) (front rest : List SeriesKey) → list_any (is_in p) front ≡ true → list_any (is_in p) (front ++ rest) ≡ true
in_page p front rest h = list_any-append (is_in p) front rest ∙ or_left (list_any (is_in p) front) (list_any (is_in p) rest) h

in_gone : (key : SeriesKey) (front rest : List SeriesKey) → list_any (λ x. identity_eq key x) rest ≡ true → list_any (λ x. identity_eq key x) (front ++ rest) ≡ true
in_gone key front rest h = list_any-append (λ x. identity_eq key x) front rest ∙ or_right (list_any (λ x. identity_eq key x) front) (list_any (λ x. identity_eq key x) rest) h

pub metrics_mark : (place : Reading → Option Placed) (start : SeriesKey → Option ℕ) (moment : ℕ) (keys : List SeriesKey) (page : Page) → IsRightPage page → AllByRecursion (λ (key : SeriesKey). has_points key.kind ≡ true) keys
    → AreMarked moment (keys_of page ++ keys) keys (event_metrics place (map (marker_with start moment) keys) page)
metrics_mark place start moment keys page right points =
    let formed : AreFormed right.0.format right.0.treatment page.families = read_pages right.0 page right.1 in
    let each : AllByRecursion (IsFormedFamily right.0.format right.0.treatment) page.families = recursion_from_All (IsFormedFamily right.0.format right.0.treatment) page.families formed.each in
    let apart : IsDistinct is_same_metric (page_metrics place page) = metrics_apart right.0.format right.0.treatment place page.families each formed.names in
    let valued : AllByRecursion IsValued (page_metrics place page) = all_are_valued right.0.format right.0.treatment place page.families each in
    let belong : AllByRecursion (λ (p : Kind × Metric). list_any (is_in p) (keys_of page ++ keys) ≡ true) (page_metrics place page) =
    all-weaker (λ (p : Kind × Metric). list_any (is_in p) (keys_of page) ≡ true) (λ (p : Kind × Metric). list_any (is_in p) (keys_of page ++ keys) ≡ true)
    (λ p h. in_page p (keys_of page) keys h) (page_metrics place page) (all_belong right.0.format right.0.treatment place page.families each) in
    let among : AllByRecursion (λ (key : SeriesKey). list_any (λ x. identity_eq key x) (keys_of page ++ keys) ≡ true) keys =
    all-weaker (λ (key : SeriesKey). list_any (λ x. identity_eq key x) keys ≡ true) (λ (key : SeriesKey). list_any (λ x. identity_eq key x) (keys_of page ++ keys) ≡ true)
    (λ key h. in_gone key (keys_of page) keys h) keys (each-among (λ (a b : SeriesKey). identity_eq b a) identity_itself keys) in
    record {
      points = all_marked start moment keys (page_metrics place page) apart valued points;
      distinct = distinct_metrics start moment keys (keys_of page ++ keys) (page_metrics place page) apart valued belong points among;
    }

-- ---- scopes with metrics

-- a scope and its metrics
abbrev with_metrics : Scope → List Metric → ScopeMetrics
with_metrics s metrics = record { name = s.name; version = s.version; metrics = metrics }

-- what holds of a scope and its metrics holds where it stands
stands : (Q : ScopeMetrics → Type 0) (s : Scope) (metrics : List Metric) → Q (with_metrics s metrics) → AllByRecursion Q (scope_with s metrics)
stands Q s [] q = tt
stands Q s (m ∷ ms) q = (q, tt)

-- the points without a value of a scope
scope_points : (s : Scope) (metrics : List Metric) → flat_map unvalued_in_scope (scope_with s metrics) ≡ map (point_in_scope s) (flat_map unvalued_in_metric metrics)
scope_points s [] = refl
scope_points s (m ∷ ms) = append-nil (map (point_in_scope s) (flat_map unvalued_in_metric (m ∷ ms)))

module _ (metrics : Scope → List Metric) where
  -- these scopes with their metrics
  abbrev made : List Scope → List ScopeMetrics
  made ss = flat_map (λ (s : Scope). scope_with s (metrics s)) ss

  each_made : (P : Scope → Type 0) (Q : ScopeMetrics → Type 0) → ((s : Scope) → P s → Q (with_metrics s (metrics s))) → (ss : List Scope) → AllByRecursion P ss → AllByRecursion Q (made ss)
  each_made P Q gives [] h = tt
  each_made P Q gives (s ∷ ss) h = all-append Q (scope_with s (metrics s)) (made ss) (stands Q s (metrics s) (gives s h.0)) (each_made P Q gives ss h.1)

  made_apart : (ss : List Scope) → IsDistinct scope_eq ss → IsDistinct is_same_scope (made ss)
  unfolding IsDistinct
  made_apart [] differ = tt
  made_apart (s ∷ ss) differ = by (metrics s) (each_made (λ x. scope_eq s x ≡ false) (λ x. scope_eq s (scope_named x) ≡ false) (λ x h. h) ss differ.0) (made_apart ss differ.1)
    where
      by : (ms : List Metric) → AllByRecursion (λ x. scope_eq s (scope_named x) ≡ false) (made ss) → IsDistinct is_same_scope (made ss) → IsDistinct is_same_scope (scope_with s ms ++ made ss)
      by [] others rest = rest
      by (m ∷ ms) others rest = (others, rest)

  -- where the metrics of each scope mark some series, the scopes mark those of each scope
  made_points : (moment : ℕ) (keys : List SeriesKey) → ((s : Scope) → IsPermutation (map (gone_point moment) (filter (is_key_in s) keys)) (flat_map unvalued_in_metric (metrics s)))
      → (ss : List Scope) → IsPermutation (map (gone_in_scope moment) (of_groups is_key_in ss keys)) (flat_map unvalued_in_scope (made ss))
  made_points moment keys each [] = IsPermutation-refl []
  made_points moment keys each (s ∷ ss) =
      let own : List SeriesKey = filter (is_key_in s) keys in
      let others : List SeriesKey = of_groups is_key_in ss keys in
      let inside : IsPermutation (map (point_in_scope s) (map (gone_point moment) own)) (map (point_in_scope s) (flat_map unvalued_in_metric (metrics s))) =
      IsPermutation-map (point_in_scope s) (map (gone_point moment) own) (flat_map unvalued_in_metric (metrics s)) (each s) in
      let here : IsPermutation (map (gone_in_scope moment) own) (flat_map unvalued_in_scope (scope_with s (metrics s))) =
      subst (λ l. IsPermutation l (flat_map unvalued_in_scope (scope_with s (metrics s)))) (sym (own_scope own (filter-passes (is_key_in s) keys)))
      (subst (IsPermutation (map (point_in_scope s) (map (gone_point moment) own))) (sym (scope_points s (metrics s))) inside) in
      let both : IsPermutation (map (gone_in_scope moment) own ++ map (gone_in_scope moment) others) (flat_map unvalued_in_scope (scope_with s (metrics s)) ++ flat_map unvalued_in_scope (made ss)) =
      IsPermutation-append (map (gone_in_scope moment) own) (flat_map unvalued_in_scope (scope_with s (metrics s))) (map (gone_in_scope moment) others) (flat_map unvalued_in_scope (made ss)) here (made_points moment keys each ss) in
      subst (λ l. IsPermutation l (flat_map unvalued_in_scope (made (s ∷ ss)))) (sym (map-append (gone_in_scope moment) own others))
      (subst (IsPermutation (map (gone_in_scope moment) own ++ map (gone_in_scope moment) others)) (sym (flat_map-append unvalued_in_scope (scope_with s (metrics s)) (made ss))) both)
    where
      own_scope : (ks : List SeriesKey) → AllByRecursion (λ (key : SeriesKey). is_key_in s key ≡ true) ks → map (gone_in_scope moment) ks ≡ map (point_in_scope s) (map (gone_point moment) ks)
      own_scope [] h = refl
      own_scope (k ∷ ks) h =
          let here : scope_of k.labels ≡ s = sym (same_scope s (scope_of k.labels) h.0) in
          let rest : map (gone_in_scope moment) ks ≡ map (point_in_scope s) (map (gone_point moment) ks) = own_scope ks h.1 in
          λ i. point_in_scope (here i) (gone_point moment k) ∷ rest i

-- ---- the scopes of a page and of series that are gone

-- they mark these series, none stands twice, none is the target's own, and no metric stands twice in one
pub record ScopesMark (moment : ℕ) (series gone : List SeriesKey) (ss : List ScopeMetrics) : Type 0 where
  pub points : IsPermutation (map (gone_in_scope moment) gone) (flat_map unvalued_in_scope ss)
  pub apart : IsDistinct is_same_scope ss
  pub none_is_target : AllByRecursion (λ (s : ScopeMetrics). scope_eq (scope_named s) target_scope ≡ false) ss
  pub metrics : AllByRecursion (λ (s : ScopeMetrics). AreDistinctMetrics (series_of_scope series (scope_named s)) s.metrics) ss

module _ (place : Reading → Option Placed) (start : SeriesKey → Option ℕ) (moment : ℕ) (keys : List SeriesKey) (page : Page) where
  -- the metrics of a scope
  abbrev metrics_in : Scope → List Metric
  metrics_in s = event_metrics place (filter (is_marked_in s) (map (marker_with start moment) keys)) (page_where (is_in_scope s) page)

  own_metrics : (s : Scope) → metrics_in s ≡ event_metrics place (map (marker_with start moment) (filter (is_key_in s) keys)) (page_where (is_in_scope s) page)
  unfolding marker_with
  own_metrics s = ap (λ ms. event_metrics place ms (page_where (is_in_scope s) page)) (filter-map (marker_with start moment) (is_marked_in s) keys)

  scope_marks : IsRightPage page → AllByRecursion (λ (key : SeriesKey). has_points key.kind ≡ true) keys → (s : Scope)
      → AreMarked moment (keys_of (page_where (is_in_scope s) page) ++ filter (is_key_in s) keys) (filter (is_key_in s) keys) (metrics_in s)
  scope_marks right points s =
      subst (AreMarked moment (keys_of (page_where (is_in_scope s) page) ++ filter (is_key_in s) keys) (filter (is_key_in s) keys)) (sym (own_metrics s))
      (metrics_mark place start moment (filter (is_key_in s) keys) (page_where (is_in_scope s) page) (right_with (is_in_scope s) page right)
      (all-filter (λ (key : SeriesKey). has_points key.kind ≡ true) (is_key_in s) keys points))

  -- the series of a scope that is not the target's own
  own_series : (s : Scope) → scope_eq s target_scope ≡ false → keys_of (page_where (is_in_scope s) page) ++ filter (is_key_in s) keys ≡ series_of_scope (keys_of page ++ keys) s
  own_series s apart = (λ i. scope_keys s page i ++ filter (is_key_in s) keys) ∙ sym (filter-append (is_key_in s) (keys_of page) keys)
      ∙ ap (λ (b : Bool). cond b target_series (filter (is_key_in s) (keys_of page ++ keys))) (sym apart)

  pub scopes_mark : IsRightPage page → AllByRecursion (λ (key : SeriesKey). has_points key.kind ≡ true) keys
      → ScopesMark moment (keys_of page ++ keys) keys (series_scopes place (map (marker_with start moment) keys) page)
  unfolding series_scopes
  scopes_mark right points =
      let ss : List Scope = scopes place start moment keys page in
      let parts : IsPermutation keys (of_groups is_key_in ss keys ++ of_none is_key_in ss keys) =
      grouped is_key_in scope_eq (λ g h key e f. scope_both g h (scope_of key.labels) e f) ss (scopes_differ place start moment keys page) keys in
      let none : of_none is_key_in ss keys ≡ [] = none-left (is_of_some is_key_in ss) keys (keys_scoped place start moment keys page) in
      let all : IsPermutation keys (of_groups is_key_in ss keys) = subst (IsPermutation keys) (ap (λ l. of_groups is_key_in ss keys ++ l) none ∙ append-nil (of_groups is_key_in ss keys)) parts in
      record {
        points = IsPermutation-trans (map (gone_in_scope moment) keys) (map (gone_in_scope moment) (of_groups is_key_in ss keys)) (flat_map unvalued_in_scope (made metrics_in ss))
            (IsPermutation-map (gone_in_scope moment) keys (of_groups is_key_in ss keys) all)
            (made_points metrics_in moment keys (λ s. (scope_marks right points s).points) ss);
        apart = made_apart metrics_in ss (scopes_differ place start moment keys page);
        none_is_target = each_made metrics_in (λ s. scope_eq s target_scope ≡ false) (λ (s : ScopeMetrics). scope_eq (scope_named s) target_scope ≡ false) (λ s h. h) ss (none_is_target place start moment keys page);
        metrics = each_made metrics_in (λ s. scope_eq s target_scope ≡ false) (λ (s : ScopeMetrics). AreDistinctMetrics (series_of_scope (keys_of page ++ keys) (scope_named s)) s.metrics)
            (λ s h. subst (λ l. AreDistinctMetrics l (metrics_in s)) (own_series s h) (scope_marks right points s).distinct) ss (none_is_target place start moment keys page);
      }
