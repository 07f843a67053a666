-- No reading of a right page is lost among its scopes, and none has a point in two.
use Rattle.std.proofs.Common.{◌≡◌, ℕ, ◌+◌, Bool, true, false, List, [], ◌∷◌, ◌++◌, length, map, filter, Option, refl, sym, ap, subst, ◌∙◌, arith}
use Rattle.std.specs.Prelude.{if◌then◌else◌}
use Rattle.std.specs.List.{AllByRecursion, IsDistinct, flat_map, sum_by}
use Rattle.std.specs.List.Sorted.{IsPermutation}
use Rattle.std.proofs.lemmas.List.{append-nil}
use Rattle.std.proofs.lemmas.List.Concat.{length-flat_map}
use Rattle.std.proofs.lemmas.List.Elements.{All-from_recursion, recursion_from_All, filter-append}
use Rattle.std.proofs.lemmas.List.Sorted.{length_permutation}
use Rattle.std.proofs.lemmas.List.Sums.{sum_by-cons}
use Rattle.label_sets.specs.declared.kind.Kind.{Kind}
use Rattle.label_sets.specs.declared.kind.Kind.TheVariants.{GaugeHistogram}
use Rattle.label_sets.proofs.Laws.{all-weaker, all-front, all-behind}
use Rattle.page_model.specs.declared.page.Reading.{Reading}
use Rattle.page_model.specs.declared.page.Family.{Family}
use Rattle.page_model.specs.declared.page.Page.{Page}
use Rattle.page_model.specs.declared.event.Event.{Event}
use Rattle.page_model.specs.Pages.{IsRightPage}
use Rattle.family_rules.proofs.Laws.{HaveKindValues, right_values}
use Rattle.start_times.specs.declared.row.Placed.{Placed}
use Rattle.start_times.specs.Scrapes.{Scrape, last_moment, moment_after, scrape_after, scrapes_of}
use Rattle.start_times.specs.Starts.{Tracking, is_taken, reading_place}
use Rattle.start_times.specs.Laws.{RiseTo}
use Rattle.family_metrics.specs.Scopes.{Scope, scope_eq, scope_of}
use Rattle.target_pages.specs.Thinned.{page_where}
use Rattle.target_pages.specs.Stretches.{without_info, goes_on, moment_of, stretch_scrape, stretch_of}
use Rattle.scope_metrics.specs.PageScopes.{is_in_scope, has_point}
use Rattle.point_laws.specs.PageLaws.{points_of_family, points_due, due_of_all, due_of_passing, HavePoints, family_in, points_over, ToldGone, scopes_beside, LosesNothing, EachPlaceHasAPoint, EachTakenHasAPoint, page_event, past_of, event_place, EachReadingHasAPoint}
use Rattle.point_laws.proofs.Parts.{filter-swap, grouped, none-left, of_groups, of_none, is_of_some}
use Rattle.point_laws.proofs.PointLaws.{metric_points, places_have_points, taken_have_points, due_for_all}
use Rattle.point_laws.proofs.RightSeries.{right_with, series_right, family_with}
use Rattle.point_laws.proofs.ScopeNames.{scope_both, scopes_differ, readings_scoped}

-- ---- sums over scopes

none_over : (ss : List Scope) → sum_by (λ (s : Scope). 0) ss ≡ 0
none_over [] = refl
none_over (s ∷ ss) =
    let more : sum_by (λ (x : Scope). 0) (s ∷ ss) ≡ 0 + sum_by (λ (x : Scope). 0) ss = sum_by-cons (λ (x : Scope). 0) s ss in
    let rest : sum_by (λ (x : Scope). 0) ss ≡ 0 = none_over ss in
    omega (arith, more, rest)

-- what is due over scopes is what is due for all of them
due_over : (kind : Kind) (count : Scope → ℕ) (ss : List Scope) (all : ℕ) → sum_by count ss ≡ all → sum_by (λ s. points_due kind (count s)) ss ≡ points_due kind all
due_over GaugeHistogram count ss all e = none_over ss
due_over _ count ss all e = e

-- where each of some readings has just one of the scopes, those of the scopes are all
counted : (ss : List Scope) → IsDistinct scope_eq ss → (rs : List Reading) → AllByRecursion (λ (r : Reading). is_of_some is_in_scope ss r ≡ true) rs → sum_by (λ s. length (filter (is_in_scope s) rs)) ss ≡ length rs
counted ss differ rs scoped =
    let parts : IsPermutation rs (of_groups is_in_scope ss rs ++ of_none is_in_scope ss rs) = grouped is_in_scope scope_eq (λ g h r e f. scope_both g h (scope_of r.key.labels) e f) ss differ rs in
    let none : of_none is_in_scope ss rs ≡ [] = none-left (is_of_some is_in_scope ss) rs scoped in
    let all : IsPermutation rs (of_groups is_in_scope ss rs) = subst (IsPermutation rs) (ap (λ l. of_groups is_in_scope ss rs ++ l) none ∙ append-nil (of_groups is_in_scope ss rs)) parts in
    sym (length-flat_map (λ s. filter (is_in_scope s) rs) ss) ∙ length_permutation rs (of_groups is_in_scope ss rs) all

module _ (place : Reading → Option Placed) (ss : List Scope) (differ : IsDistinct scope_eq ss) where
  -- the readings with points of a family have a scope
  abbrev AreScoped : Family → Type 0
  AreScoped f = AllByRecursion (λ (r : Reading). is_of_some is_in_scope ss r ≡ true) (filter (has_point place) f.readings)

  family_over : (f : Family) → ((s : Scope) → points_of_family place (family_in s f) ≡ points_due f.kind (length (filter (has_point place) (filter (is_in_scope s) f.readings)))) → AreScoped f
      → points_over place ss f ≡ due_of_passing (has_point place) f
  family_over f each scoped =
      ap (λ (h : Scope → ℕ). sum_by h ss) (λ i s. (each s ∙ ap (λ (rs : List Reading). points_due f.kind (length rs)) (filter-swap (has_point place) (is_in_scope s) f.readings)) i)
      ∙ due_over f.kind (λ s. length (filter (is_in_scope s) (filter (has_point place) f.readings))) ss (length (filter (has_point place) f.readings))
      (counted ss differ (filter (has_point place) f.readings) scoped)

  each_scoped : (fs : List Family) → AllByRecursion (λ (r : Reading). is_of_some is_in_scope ss r ≡ true) (filter (has_point place) (flat_map (λ (f : Family). f.readings) fs)) → AllByRecursion AreScoped fs
  each_scoped [] scoped = tt
  each_scoped (f ∷ fs) scoped =
      let rest : List Reading = flat_map (λ (g : Family). g.readings) fs in
      let both : AllByRecursion (λ (r : Reading). is_of_some is_in_scope ss r ≡ true) (filter (has_point place) f.readings ++ filter (has_point place) rest) =
      subst (AllByRecursion (λ (r : Reading). is_of_some is_in_scope ss r ≡ true)) (filter-append (has_point place) f.readings rest) scoped in (
        all-front (λ (r : Reading). is_of_some is_in_scope ss r ≡ true) (filter (has_point place) f.readings) (filter (has_point place) rest) both,
        each_scoped fs (all-behind (λ (r : Reading). is_of_some is_in_scope ss r ≡ true) (filter (has_point place) f.readings) (filter (has_point place) rest) both),
      )

  families_over : (fs : List Family) → ((s : Scope) → HaveKindValues (map (family_with (is_in_scope s)) fs)) → AllByRecursion AreScoped fs → AllByRecursion (λ (f : Family). points_over place ss f ≡ due_of_passing (has_point place) f) fs
  families_over [] have scoped = tt
  families_over (f ∷ fs) have scoped =
      (family_over f (λ s. metric_points place f.kind f.help (filter (is_in_scope s) f.readings) (have s).0) scoped.0, families_over fs (λ s. (have s).1) scoped.1)

-- over all scopes of a right page each family has the points of its readings
pub all_over : (place : Reading → Option Placed) (told : ToldGone) (page : Page) → IsRightPage page → AllByRecursion (λ (f : Family). points_over place (scopes_beside place told page) f ≡ due_of_passing (has_point place) f) page.families
all_over place told page right =
    let ss : List Scope = scopes_beside place told page in
    let differ : IsDistinct scope_eq ss = scopes_differ place told.start told.moment told.gone page in
    families_over place ss differ page.families (λ s. right_values (page_where (is_in_scope s) page) (right_with (is_in_scope s) page right))
    (each_scoped place ss differ page.families (readings_scoped place told.start told.moment told.gone page))

-- ---- what is due

-- where a page has the points that are due for its places, and also those that are due otherwise, both are one
same_due : (place : Reading → Option Placed) (due other : Family → ℕ) (fs : List Family) → AllByRecursion (λ (f : Family). points_of_family place f ≡ due f) fs → AllByRecursion (λ (f : Family). points_of_family place f ≡ other f) fs
    → AllByRecursion (λ (f : Family). due f ≡ other f) fs
same_due place due other [] g h = tt
same_due place due other (f ∷ fs) g h = (sym g.0 ∙ h.0, same_due place due other fs g.1 h.1)

due_otherwise : (points due other : Family → ℕ) (fs : List Family) → AllByRecursion (λ (f : Family). points f ≡ due f) fs → AllByRecursion (λ (f : Family). due f ≡ other f) fs → AllByRecursion (λ (f : Family). points f ≡ other f) fs
due_otherwise points due other [] g h = tt
due_otherwise points due other (f ∷ fs) g h = (g.0 ∙ h.0, due_otherwise points due other fs g.1 h.1)

-- what right pages have of readings at their places, a right page has over all scopes
pub loses_nothing : (place : Reading → Option Placed) (due : Family → ℕ) → ((page : Page) → IsRightPage page → HavePoints place due page) → (told : ToldGone) (page : Page) → IsRightPage page → LosesNothing place due told page
loses_nothing place due have told page right =
    let here : AllByRecursion (λ (f : Family). points_of_family place f ≡ due f) page.families = recursion_from_All (λ (f : Family). points_of_family place f ≡ due f) page.families (have page right) in
    let at_places : AllByRecursion (λ (f : Family). points_of_family place f ≡ due_of_passing (has_point place) f) page.families =
    recursion_from_All (λ (f : Family). points_of_family place f ≡ due_of_passing (has_point place) f) page.families (places_have_points place page right) in
    record {
      in_page = have page right;
      in_scope = λ s. have (page_where (is_in_scope s) page) (right_with (is_in_scope s) page right);
      in_all = All-from_recursion (λ (f : Family). points_over place (scopes_beside place told page) f ≡ due f) page.families
          (due_otherwise (points_over place (scopes_beside place told page)) (due_of_passing (has_point place)) due page.families (all_over place told page right)
          (same_due place (due_of_passing (has_point place)) due page.families at_places here));
    }

-- ---- the laws

pub places_lose_nothing : (page : Page) → IsRightPage page → EachPlaceHasAPoint page
places_lose_nothing page right = λ place told. loses_nothing place (due_of_passing (has_point place)) (places_have_points place) told page right

pub taken_lose_nothing : (page : Page) → IsRightPage page → EachTakenHasAPoint page
taken_lose_nothing page right = λ t past moment told. loses_nothing (reading_place t past moment) (due_of_passing (λ (r : Reading). is_taken t moment r past)) (taken_have_points t past moment) told page right

pub series_lose_nothing : (page : Page) → IsRightPage page → EachTakenHasAPoint (without_info page)
series_lose_nothing page right = taken_lose_nothing (without_info page) (series_right page right)

-- ---- where times of the page don't count

-- what rises to a moment rises to it also where it is left out
rises_or_none : (b : Bool) (moment : ℕ) (past : List Scrape) → RiseTo moment past → RiseTo moment (if b then past else [])
rises_or_none true moment past rise = rise
rises_or_none false moment past rise = tt

-- the moments of events rise to that of the next one
rising : (earlier : List Event) (at : ℕ) → RiseTo (moment_after (last_moment (scrapes_of earlier)) at) (stretch_of earlier)
unfolding scrape_after stretch_scrape
rising [] at = tt
rising (e ∷ earlier) at = (omega arith, rises_or_none (goes_on earlier e) (moment_of earlier e) (stretch_of earlier) (rising earlier e.reading))

event_rises : (earlier : List Event) (e : Event) → RiseTo (moment_of earlier e) (past_of earlier e)
unfolding scrape_after
event_rises earlier e = rises_or_none (goes_on earlier e) (moment_of earlier e) (stretch_of earlier) (rising earlier e.reading)

all_have_points : (t : Tracking) (past : List Scrape) (moment : ℕ) → t.honor ≡ false → RiseTo moment past → (page : Page) → IsRightPage page → HavePoints (reading_place t past moment) due_of_all page
all_have_points t past moment off rise page right =
    All-from_recursion (λ (f : Family). points_of_family (reading_place t past moment) f ≡ due_of_all f) page.families
    (all-weaker (λ (f : Family). points_of_family (reading_place t past moment) f ≡ due_of_passing (λ (r : Reading). is_taken t moment r past) f) (λ (f : Family). points_of_family (reading_place t past moment) f ≡ due_of_all f)
    (λ f e. e ∙ due_for_all t past moment f off rise) page.families
    (recursion_from_All (λ (f : Family). points_of_family (reading_place t past moment) f ≡ due_of_passing (λ (r : Reading). is_taken t moment r past) f) page.families (taken_have_points t past moment page right)))

pub readings_lose_nothing : (page : Page) → IsRightPage page → EachReadingHasAPoint page
readings_lose_nothing page right = λ t earlier at told off.
    let e : Event = page_event at page in
    loses_nothing (event_place t earlier e) due_of_all (all_have_points t (past_of earlier e) (moment_of earlier e) off (event_rises earlier e)) told (without_info page) (series_right page right)
