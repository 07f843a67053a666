-- The tree of an event marks the series that are gone: one point without a value for each, in its part, its scope and its metric.
use Rattle.std.proofs.Common.{◌≡◌, ℕ, Bool, true, false, List, [], ◌∷◌, ◌++◌, map, Option, None, refl, sym, ap, subst, ◌∙◌}
use Rattle.std.specs.Prelude.{if◌then◌else◌}
use Rattle.std.specs.List.{IsDistinct, AllByRecursion, flat_map}
use Rattle.std.specs.List.Sorted.{IsPermutation}
use Rattle.std.proofs.lemmas.Grind.{flat_map-append}
use Rattle.std.proofs.lemmas.List.{append-nil}
use Rattle.label_sets.specs.declared.label_set.LabelSet.{LabelSet}
use Rattle.label_sets.specs.declared.series_key.SeriesKey.{SeriesKey}
use Rattle.label_sets.specs.Keys.{key_eq}
use Rattle.label_sets.proofs.Laws.{all-weaker, all-append}
use Rattle.page_model.specs.declared.page.Reading.{Reading}
use Rattle.page_model.specs.declared.page.Page.{Page}
use Rattle.page_model.specs.declared.event.Event.{Event}
use Rattle.page_model.specs.Pages.{IsRightPage}
use Rattle.page_model.specs.Presence.{empty_page, keys_of, page_of_outcome}
use Rattle.page_model.proofs.Laws.{right-distinct_keys}
use Rattle.otlp_tree.specs.declared.tree.ResourceMetrics.{ResourceMetrics}
use Rattle.otlp_tree.specs.declared.tree.ScopeMetrics.{ScopeMetrics}
use Rattle.bridge_ports.specs.Targets.{Scraped}
use Rattle.start_times.specs.declared.row.Placed.{Placed}
use Rattle.start_times.specs.Scrapes.{last_page}
use Rattle.start_times.specs.Starts.{Tracking, has_points, reading_place, start_there}
use Rattle.staleness.specs.Vanished.{keys_gone}
use Rattle.staleness.proofs.Laws.{gone_have_points, gone_differ}
use Rattle.family_metrics.specs.Scopes.{scope_eq, target_scope}
use Rattle.target_pages.specs.Stretches.{resource_attributes, goes_on, moment_of, stretch_scrape, stretch_of}
use Rattle.scope_metrics.specs.PageScopes.{scope_with, series_scopes}
use Rattle.target_core.specs.Trees.{target_metrics, target_gauge, resource_of, gone_part, request_of}
use Rattle.target_pages.specs.Outcomes.{up_of}
use Rattle.target_core.specs.Events.{marker_with, request_within, request_at_change, request_after}
use Rattle.point_laws.specs.MarkerLaws.{scope_named, unvalued_in_scope, gone_in_scope, AreDistinctMetrics, series_of_scope, is_same_scope, MarksInPart, MarksBehind, MarksTheGone, EventsMarkTheGone}
use Rattle.point_laws.proofs.Parts.{distinct-append}
use Rattle.point_laws.proofs.KindedMetrics.{target_distinct}
use Rattle.point_laws.proofs.RightSeries.{series_right, nothing_right, last_right}
use Rattle.point_laws.proofs.Resources.{resources_differ}
use Rattle.point_laws.proofs.ScopeMarks.{ScopesMark, scopes_mark}

-- ---- the first part

-- the target's own points have values
target_told : (moment up samples : ℕ) → flat_map unvalued_in_scope (scope_with target_scope (target_metrics moment up samples)) ≡ []
unfolding target_metrics target_gauge
target_told moment up samples = refl

-- the series that mark and behind them the target's own scope
with_target : (moment up samples : ℕ) (series gone : List SeriesKey) (ss : List ScopeMetrics) → ScopesMark moment series gone ss
    → IsPermutation (map (gone_in_scope moment) gone) (flat_map unvalued_in_scope (ss ++ scope_with target_scope (target_metrics moment up samples)))
with_target moment up samples series gone ss mark =
    subst (IsPermutation (map (gone_in_scope moment) gone))
    (sym (flat_map-append unvalued_in_scope ss (scope_with target_scope (target_metrics moment up samples)) ∙ ap (λ l. flat_map unvalued_in_scope ss ++ l) (target_told moment up samples) ∙ append-nil (flat_map unvalued_in_scope ss)))
    mark.points

target_apart : (moment up samples : ℕ) (series gone : List SeriesKey) (ss : List ScopeMetrics) → ScopesMark moment series gone ss → IsDistinct is_same_scope (ss ++ scope_with target_scope (target_metrics moment up samples))
unfolding target_metrics IsDistinct
target_apart moment up samples series gone ss mark =
    distinct-append is_same_scope ss (scope_with target_scope (target_metrics moment up samples)) mark.apart (tt, tt)
    (all-weaker (λ (s : ScopeMetrics). scope_eq (scope_named s) target_scope ≡ false) (λ (s : ScopeMetrics). AllByRecursion (λ x. is_same_scope s x ≡ false) (scope_with target_scope (target_metrics moment up samples)))
    (λ s h. (h, tt)) ss mark.none_is_target)

target_own : (moment up samples : ℕ) (series : List SeriesKey) → AllByRecursion (λ (s : ScopeMetrics). AreDistinctMetrics (series_of_scope series (scope_named s)) s.metrics) (scope_with target_scope (target_metrics moment up samples))
unfolding target_metrics
target_own moment up samples series = (target_distinct moment up samples, tt)

pub in_first_part : (target : Scraped) (attributes : LabelSet) (place : Reading → Option Placed) (start : SeriesKey → Option ℕ) (moment up : ℕ) (keys : List SeriesKey) (page : Page)
    → IsRightPage page → IsDistinct key_eq keys → AllByRecursion (λ (key : SeriesKey). has_points key.kind ≡ true) keys
    → MarksInPart (resource_of target attributes) moment page keys (record {
      resource = resource_of target attributes;
      scopes = series_scopes place (map (marker_with start moment) keys) page ++ scope_with target_scope (target_metrics moment up page.samples);
    })
in_first_part target attributes place start moment up keys page right once points =
    let ss : List ScopeMetrics = series_scopes place (map (marker_with start moment) keys) page in
    let mark : ScopesMark moment (keys_of page ++ keys) keys ss = scopes_mark place start moment keys page right points in
    record {
      resource_is = refl;
      points = with_target moment up page.samples (keys_of page ++ keys) keys ss mark;
      once = once;
      scopes = target_apart moment up page.samples (keys_of page ++ keys) keys ss mark;
      metrics = all-append (λ (s : ScopeMetrics). AreDistinctMetrics (series_of_scope (keys_of page ++ keys) (scope_named s)) s.metrics) ss (scope_with target_scope (target_metrics moment up page.samples))
          mark.metrics (target_own moment up page.samples (keys_of page ++ keys));
    }

-- ---- the second part

pub others_mark : (target : Scraped) (attributes : LabelSet) (start : SeriesKey → Option ℕ) (moment : ℕ) (keys : List SeriesKey) → IsDistinct key_eq keys → AllByRecursion (λ (key : SeriesKey). has_points key.kind ≡ true) keys
    → MarksBehind (resource_of target attributes) moment keys (gone_part target attributes (map (marker_with start moment) keys))
others_mark target attributes start moment [] once points = refl
others_mark target attributes start moment (key ∷ keys) once points =
    let ss : List ScopeMetrics = series_scopes (λ r. None) (map (marker_with start moment) (key ∷ keys)) empty_page in
    let part : ResourceMetrics = record { resource = resource_of target attributes; scopes = ss } in
    let mark : ScopesMark moment (keys_of empty_page ++ key ∷ keys) (key ∷ keys) ss = scopes_mark (λ r. None) start moment (key ∷ keys) empty_page nothing_right points in
    (part, refl, record { resource_is = refl; points = mark.points; once = once; scopes = mark.apart; metrics = mark.metrics })

-- ---- events

module _ (target : Scraped) (t : Tracking) (earlier : List Event) (e : Event) where
  -- the page before and the page now
  abbrev before : Page
  before = last_page (stretch_of earlier)

  abbrev now : Page
  now = (stretch_scrape earlier e).page

  -- the tree of an event that leaves the attributes as they were, or changes them, marks what is gone
  abbrev MarksBy : Bool → Type 0
  MarksBy b = MarksTheGone (moment_of earlier e) now
      (resource_of target (resource_attributes (e ∷ earlier))) (if b then keys_gone t before now else [])
      (resource_of target (resource_attributes earlier)) (if b then [] else keys_gone t before empty_page)
      (if b then request_within target t earlier e else request_at_change target t earlier e)

  marks_by : IsRightPage before → IsRightPage now → (b : Bool) → goes_on earlier e ≡ b → MarksBy b
  unfolding stretch_scrape request_of IsDistinct
  marks_by right_before right_now true kept =
      let keys : List SeriesKey = keys_gone t before now in
      let place : Reading → Option Placed = reading_place t (stretch_of earlier) (moment_of earlier e) in
      let start : SeriesKey → Option ℕ = start_there t (stretch_of earlier) in
      record {
        first = record {
          resource = resource_of target (resource_attributes (e ∷ earlier));
          scopes = series_scopes place (map (marker_with start (moment_of earlier e)) keys) now ++ scope_with target_scope (target_metrics (moment_of earlier e) (up_of e.outcome) now.samples);
        };
        further = [];
        parts_are = refl;
        in_first_part = in_first_part target (resource_attributes (e ∷ earlier)) place start (moment_of earlier e) (up_of e.outcome) keys now right_now
            (gone_differ t before now (right-distinct_keys before right_before)) (gone_have_points t before now);
        behind_first = refl;
        resources_differ = λ some. absurd (some refl);
      }
  marks_by right_before right_now false changed =
      let keys : List SeriesKey = keys_gone t before empty_page in
      let place : Reading → Option Placed = reading_place t [] (moment_of earlier e) in
      let start : SeriesKey → Option ℕ = start_there t (stretch_of earlier) in
      record {
        first = record {
          resource = resource_of target (resource_attributes (e ∷ earlier));
          scopes = series_scopes place [] now ++ scope_with target_scope (target_metrics (moment_of earlier e) (up_of e.outcome) now.samples);
        };
        further = gone_part target (resource_attributes earlier) (map (marker_with start (moment_of earlier e)) keys);
        parts_are = refl;
        in_first_part = in_first_part target (resource_attributes (e ∷ earlier)) place start (moment_of earlier e) (up_of e.outcome) [] now right_now tt tt;
        behind_first = others_mark target (resource_attributes earlier) start (moment_of earlier e) keys
            (gone_differ t before empty_page (right-distinct_keys before right_before)) (gone_have_points t before empty_page);
        resources_differ = λ some same. resources_differ target (resource_attributes earlier) (resource_attributes (e ∷ earlier)) changed same;
      }

pub events_mark_the_gone : EventsMarkTheGone
unfolding request_after stretch_scrape
events_mark_the_gone target t earlier e right_before right_now =
    marks_by target t earlier e (last_right earlier right_before) (series_right (page_of_outcome e.outcome) right_now) (goes_on earlier e) refl
