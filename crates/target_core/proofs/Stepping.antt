-- One event more: the places and the markers that a state gives are those of the events from which it goes on.
use Rattle.std.proofs.Common.{◌≡◌, ℕ, ◌+◌, ◌<◌, Bool, true, false, cond, List, [], ◌∷◌, ◌++◌, map, filter, find, take, length, get_or, min, Option, Some, None, option_map, option_and_then, refl, sym, ap, subst, ◌∙◌, is_some, inl, inr, arith}
use Rattle.std.specs.Prelude.{Result, Ok, Err, IfOk, nat_le}
use Rattle.std.specs.List.{IsDistinct}
use Rattle.std.specs.Map.{keys_of as row_keys}
use Rattle.std.proofs.lemmas.Bool.{le-leb}
use Rattle.std.proofs.lemmas.List.{map-append, get_or-map}
use Rattle.label_sets.specs.declared.kind.Kind.{Kind}
use Rattle.label_sets.specs.declared.kind.Kind.TheVariants.{Counter, Gauge, Histogram, GaugeHistogram, StateSet, Info, Summary, Unknown}
use Rattle.label_sets.specs.declared.label_set.LabelSet.{LabelSet}
use Rattle.label_sets.specs.declared.series_key.SeriesKey.{SeriesKey}
use Rattle.label_sets.specs.Keys.{key_eq}
use Rattle.label_sets.specs.Labels.{label_sets_eq}
use Rattle.label_sets.proofs.Laws.{key_decides, sets_decide}
use Rattle.page_model.specs.declared.page.Reading.{Reading}
use Rattle.page_model.specs.declared.page.Page.{Page}
use Rattle.page_model.specs.declared.event.Outcome.{Outcome}
use Rattle.page_model.specs.declared.event.Event.{Event}
use Rattle.page_model.specs.Presence.{empty_page, all_readings, is_present, page_of_outcome}
use Rattle.start_times.specs.declared.row.Row.{Row}
use Rattle.start_times.specs.declared.row.Kept.{Kept}
use Rattle.start_times.specs.declared.row.Starts.{Starts}
use Rattle.start_times.specs.Scrapes.{Scrape, last_moment, last_page, moment_after, scrape_after, scrapes_of}
use Rattle.start_times.specs.Starts.{Tracking, Sight, has_start, has_points, last_taken, start_at, reading_place, start_there}
use Rattle.start_times.specs.Rows.{Tracked, Tracks, row_of, row_start, kept_row, kept_start}
use Rattle.start_times.specs.Keeping.{entries_of}
use Rattle.start_times.specs.Advancing.{Advances, HasDistinctKeys, lacks_some, scrape_of}
use Rattle.staleness.specs.declared.marks.Mark.{Mark}
use Rattle.staleness.specs.Marks.{marks_of, marks_gone}
use Rattle.staleness.specs.Vanished.{is_gone, keys_gone}
use Rattle.staleness.proofs.Laws.{marks_are_enough, none_missed}
use Rattle.otlp_tree.specs.declared.tree.Request.{Request}
use Rattle.bridge_ports.specs.Targets.{Scraped}
use Rattle.family_metrics.specs.declared.markers.Marker.{Marker}
use Rattle.target_pages.specs.Thinned.{without_exemplars, shown_page}
use Rattle.target_pages.specs.SeriesPages.{marks_where}
use Rattle.target_pages.specs.Stretches.{without_info, attributes_after, resource_attributes, goes_on, moment_of, stretch_scrape, stretch_of, closing_scrape}
use Rattle.target_core.specs.Trees.{gone_part, request_of}
use Rattle.target_pages.specs.Outcomes.{up_of, IsSeen}
use Rattle.target_core.specs.Events.{marker_with, markers_at, request_within, request_at_change, request_after, latest_shown, first_place, event_request}
use Rattle.target_core.specs.States.{Following, StandsFor, GoesOnFrom, Steps, told_scrapes, shown_by}
use Rattle.target_core.specs.Stepping.{AreMarkersLacked, IsEventNext, IsToldBehind, ReadsWithin, ReadsAnew, keys_lacked, lacked_markers, missed_markers, marks_held, next_state}
use Rattle.target_core.proofs.EmptyPast.{empty_past}
use Rattle.family_metrics.proofs.Laws.{one_more}
use Rattle.target_pages.proofs.Laws.{series_distinct, shown_distinct, shown_series, same_marks, same_tracks, marks_are}

-- ---- the starts of series that are gone

-- a map over the keys of readings that pass a test, where two functions agree on the key of each reading
same_starts : (test : Reading → Bool) (f g : SeriesKey → Marker) (rs : List Reading) → ((key : SeriesKey) → is_some (find (λ (r : Reading). key_eq key r.key) rs) ≡ true → f key ≡ g key)
    → map f (map (λ (r : Reading). r.key) (filter test rs)) ≡ map g (map (λ (r : Reading). r.key) (filter test rs))
same_starts test f g [] agree = refl
same_starts test f g (r ∷ rs) agree = by (test r) (agree r.key (here (key_eq r.key r.key) ((key_decides r.key r.key).1 refl))) (same_starts test f g rs (λ key e. agree key (there (key_eq key r.key) (find (λ (q : Reading). key_eq key q.key) rs) e)))
  where
    here : (b : Bool) → b ≡ true → is_some (cond b (Some r) (find (λ (q : Reading). key_eq r.key q.key) rs)) ≡ true
    here true e = refl
    here false e = absurd cc

    there : (b : Bool) (o : Option Reading) → is_some o ≡ true → is_some (cond b (Some r) o) ≡ true
    there true o e = refl
    there false o e = e

    by : (b : Bool) → f r.key ≡ g r.key → map f (map (λ (q : Reading). q.key) (filter test rs)) ≡ map g (map (λ (q : Reading). q.key) (filter test rs))
        → map f (map (λ (q : Reading). q.key) (cond b (r ∷ filter test rs) (filter test rs))) ≡ map g (map (λ (q : Reading). q.key) (cond b (r ∷ filter test rs) (filter test rs)))
    by true e rest = λ i. e i ∷ rest i
    by false e rest = rest

-- kinds with starts have points
points_of_starts : (kind : Kind) → has_start kind ≡ true → has_points kind ≡ true
unfolding has_start has_points
points_of_starts Counter h = refl
points_of_starts Gauge h = refl
points_of_starts Histogram h = refl
points_of_starts GaugeHistogram h = absurd cc
points_of_starts StateSet h = refl
points_of_starts Info h = refl
points_of_starts Summary h = refl
points_of_starts Unknown h = refl

-- the start of a row of a series whose kind has none
no_start : (key : SeriesKey) (o : Option Row) → has_start key.kind ≡ false → option_and_then (row_start key) o ≡ None
no_start key None h = refl
no_start key (Some row) h = rw h refl

-- the start of the row of a series at the place where it was last taken
start_of_sight : (t : Tracking) (key : SeriesKey) (o : Option Sight) → has_start key.kind ≡ true → option_and_then (row_start key) (option_map (row_of t 0) o) ≡ option_map (start_at t) o
unfolding row_of
start_of_sight t key None h = refl
start_of_sight t key (Some s) h = rw h refl

-- the start that a row keeps of a series that the last scrape had is the start that it had where it was last taken
kept_there : (t : Tracking) (k : Tracked) (past : List Scrape) (key : SeriesKey) → Tracks t k past → is_present key (last_page past) ≡ true → kept_start k.rows key ≡ start_there t past key
unfolding kept_row
kept_there t k [] key tracks present = absurd (let no : false ≡ true = present in cc)
kept_there t k (last ∷ before) key tracks present = ap (option_and_then (row_start key)) (tracks.rows key) ∙ by (has_start key.kind) refl
  where
    by : (b : Bool) → has_start key.kind ≡ b → option_and_then (row_start key) (kept_row t key (last ∷ before)) ≡ start_there t (last ∷ before) key
    by true h =
        let young : nat_le 0 t.keep ≡ true = le-leb 0 t.keep (omega arith) in
        let row : kept_row t key (last ∷ before) ≡ option_map (row_of t 0) (last_taken t key (last ∷ before)) = rw (points_of_starts key.kind h, present, young) refl in
        let there : start_there t (last ∷ before) key ≡ option_map (start_at t) (last_taken t key (last ∷ before)) = rw (h, present) refl in
        ap (option_and_then (row_start key)) row ∙ start_of_sight t key (last_taken t key (last ∷ before)) h ∙ sym there
    by false h = no_start key (kept_row t key (last ∷ before)) h ∙ rw h refl

-- the markers with the starts that rows keep are those of the events
markers_are_kept : (t : Tracking) (k : Tracked) (past : List Scrape) (now : Scrape) → Tracks t k past → map (marker_with (kept_start k.rows) now.moment) (keys_gone t (last_page past) now.page) ≡ markers_at t past now
unfolding marker_with
markers_are_kept t k past now tracks = same_starts (is_gone t now.page) (marker_with (kept_start k.rows) now.moment) (marker_with (start_there t past) now.moment) (all_readings (last_page past))
    (λ key among. ap (λ s. record { key = key; start = option_map (min now.moment) s; time = now.moment }) (kept_there t k past key tracks among))

-- ---- the last page

-- the last page of a stretch is that of the last scrape, without what describes the target
pub last_series : (events : List Event) → last_page (stretch_of events) ≡ without_info (last_page (scrapes_of events))
unfolding stretch_scrape scrape_after without_info
last_series [] = refl
last_series (e ∷ earlier) = refl

-- what a state has of its last page tells what the page tells
lacked_by_marks : (t : Tracking) (marks : Option (List Mark)) (before now : Page) → keys_lacked t marks before now ≡ marks_gone (marks_held t marks before) now
lacked_by_marks t None before now = sym (marks_are_enough t before now)
lacked_by_marks t (Some marks) before now = refl

-- the keys that the last page tells, where a state has it
pub lacked_of_page : {E : Type 0} (r : Result (List SeriesKey) E) (s : Following) (honor : Bool) (before now : Page) → s.marks ≡ None → honor ≡ s.target.honor → before ≡ without_info s.page
    → IfOk r (λ keys. (t : Tracking) → t.honor ≡ honor → keys ≡ keys_gone t before now) → IfOk r (λ keys. (t : Tracking) → t.honor ≡ s.target.honor → keys ≡ keys_lacked t s.marks (without_info s.page) now)
lacked_of_page (Ok keys) s honor before now none same before_is gone = λ t own. gone t (own ∙ sym same) ∙ ap (λ (p : Page). keys_gone t p now) before_is ∙ ap (λ m. keys_lacked t m (without_info s.page) now) (sym none)
lacked_of_page (Err e) s honor before now none same before_is gone = tt

-- the markers of the keys that a page lacks
pub markers_lacked : {V E : Type 0} (items : V → List Marker) (r : Result V E) (s : Following) (rows : List (SeriesKey × Row)) (moment : ℕ) (now : Page) (gone slice : List SeriesKey) (starts list : List (Option ℕ))
    → ((t : Tracking) → t.honor ≡ s.target.honor → gone ≡ keys_lacked t s.marks (without_info s.page) now) → (IsDistinct key_eq (row_keys rows) → list ≡ map (kept_start rows) gone) → slice ≡ gone → starts ≡ list
    → ((start : SeriesKey → Option ℕ) → starts ≡ map start slice → IfOk r (λ v. items v ≡ map (marker_with start moment) slice))
    → IfOk r (λ v. AreMarkersLacked s rows moment now (items v))
markers_lacked items (Ok v) s rows moment now gone slice starts list are kept same told made = λ t own once.
    made (kept_start rows) (told ∙ kept once ∙ ap (map (kept_start rows)) (sym same)) ∙ ap (map (marker_with (kept_start rows) moment)) (same ∙ are t own)
markers_lacked items (Err e) s rows moment now gone slice starts list are kept same told made = tt

-- the marks that the last page tells, where a state has it
pub held_by_page : {E : Type 0} (r : Result (List Mark) E) (s : Following) (honor : Bool) (page : Page) → s.marks ≡ None → honor ≡ s.target.honor → page ≡ without_info s.page
    → IfOk r (λ marks. marks ≡ marks_where honor (all_readings page)) → IfOk r (λ marks. (t : Tracking) → t.honor ≡ s.target.honor → marks ≡ marks_held t s.marks (without_info s.page))
held_by_page (Ok marks) s honor page none same page_is made = λ t own. made ∙ marks_are t honor page (own ∙ sym same) ∙ ap (marks_of t) page_is ∙ ap (λ m. marks_held t m (without_info s.page)) (sym none)
held_by_page (Err e) s honor page none same page_is made = tt

-- ---- from what a state goes on

-- a target that was never scraped
pub new_stands : (target : Scraped) (keep : ℕ) (resource : LabelSet) (tracked : Tracked) (page : Page) → resource ≡ [] → Tracks (record { keep = keep; honor = target.honor }) tracked [] → page ≡ empty_page
    → StandsFor target (record { keep = keep; honor = target.honor }) (record { target = target; keep = keep; resource = resource; tracked = tracked; pending = false; page = page; marks = None; moment = None }) []
unfolding without_exemplars
new_stands target keep resource tracked page none tracks page_is = record {
  target_is = refl;
  keep_is = refl;
  honor_is = refl;
  resource_is = none;
  tracks = tracks;
  distinct = λ p. absurd (let no : false ≡ true = p in cc);
  page_is = page_is;
  has_page = refl;
  moment_is = refl;
}

-- what a state has in common with all events from which it goes on
pub record GoesOn (target : Scraped) (t : Tracking) (s : Following) (events : List Event) : Type 0 where
  pub target_is : s.target ≡ target
  pub keep_is : s.keep ≡ t.keep
  pub honor_is : t.honor ≡ target.honor
  pub resource_is : s.resource ≡ resource_attributes events
  pub moment_is : s.moment ≡ last_moment (scrapes_of events)
  pub marks_are : marks_held t s.marks (without_info s.page) ≡ marks_of t (last_page (stretch_of events))

held_of_page : (t : Tracking) (s : Following) (events : List Event) → s.marks ≡ None → s.page ≡ shown_page (last_page (scrapes_of events))
    → marks_held t s.marks (without_info s.page) ≡ marks_of t (last_page (stretch_of events))
held_of_page t s events none page_is =
    let last = last_page (scrapes_of events) in
    (λ i. marks_held t (none i) (without_info (page_is i))) ∙ same_marks t (without_info (shown_page last)) (without_info last) (shown_series last) ∙ ap (marks_of t) (sym (last_series events))

pub goes_on_from : (target : Scraped) (t : Tracking) (s : Following) (events : List Event) → GoesOnFrom target t s events → GoesOn target t s events
goes_on_from target t s events (inl stands) = record {
  target_is = stands.target_is;
  keep_is = stands.keep_is;
  honor_is = stands.honor_is;
  resource_is = stands.resource_is;
  moment_is = stands.moment_is;
  marks_are = held_of_page t s events stands.has_page stands.page_is;
}
goes_on_from target t s events (inr stands) = record {
  target_is = stands.target_is;
  keep_is = stands.keep_is;
  honor_is = stands.honor_is;
  resource_is = stands.resource_is;
  moment_is = stands.moment_is;
  marks_are = ap (λ m. marks_held t m (without_info s.page)) stands.marks_are;
}

-- times of the page count as they do for the target
pub honors : (target : Scraped) (t : Tracking) (s : Following) (events : List Event) → GoesOn target t s events → t.honor ≡ s.target.honor
honors target t s events on = on.honor_is ∙ sym (ap (λ (x : Scraped). x.honor) on.target_is)

-- the series that a page lacks are those that are gone
lacked_are_gone : (target : Scraped) (t : Tracking) (s : Following) (events : List Event) (now : Page) → GoesOn target t s events
    → keys_lacked t s.marks (without_info s.page) now ≡ keys_gone t (last_page (stretch_of events)) now
lacked_are_gone target t s events now on =
    lacked_by_marks t s.marks (without_info s.page) now ∙ ap (λ (ms : List Mark). marks_gone ms now) on.marks_are ∙ marks_are_enough t (last_page (stretch_of events)) now

-- the markers of the series that a page lacks are those of the events
lacked_marked : (target : Scraped) (t : Tracking) (s : Following) (events : List Event) (k : Tracked) (moment : ℕ) (now : Page) → GoesOn target t s events → Tracks t k (stretch_of events)
    → lacked_markers t s k.rows moment now ≡ markers_at t (stretch_of events) (scrape_of now moment)
lacked_marked target t s events k moment now on tracks =
    ap (map (marker_with (kept_start k.rows) moment)) (lacked_are_gone target t s events now on) ∙ markers_are_kept t k (stretch_of events) (scrape_of now moment) tracks

-- so they are where none is sought beside a page that misses nothing
missed_marked : (target : Scraped) (t : Tracking) (s : Following) (events : List Event) (k : Tracked) (moment : ℕ) (now : Page) → GoesOn target t s events → Tracks t k (stretch_of events)
    → missed_markers t s k.rows (lacks_some (stretch_of events) now) moment now ≡ markers_at t (stretch_of events) (scrape_of now moment)
missed_marked target t s events k moment now on tracks = by (lacks_some (stretch_of events) now) refl
  where
    by : (b : Bool) → lacks_some (stretch_of events) now ≡ b → missed_markers t s k.rows b moment now ≡ markers_at t (stretch_of events) (scrape_of now moment)
    by true e = lacked_marked target t s events k moment now on tracks
    by false e =
        let none : keys_lacked t s.marks (without_info s.page) now ≡ [] = lacked_are_gone target t s events now on ∙ none_missed t (stretch_of events) now e in
        sym (ap (map (marker_with (kept_start k.rows) moment)) none) ∙ lacked_marked target t s events k moment now on tracks

-- ---- the rows behind all scrapes of a stretch

none_told : (b : Bool) → told_scrapes b [] ≡ []
none_told true = refl
none_told false = refl

-- a state without a moment goes on from no events
no_events : (s : Following) (events : List Event) → s.moment ≡ None → s.moment ≡ last_moment (scrapes_of events) → events ≡ []
no_events s [] e moment_is = refl
no_events s (x ∷ events) e moment_is = absurd (let no : None ≡ Some (scrape_after (scrapes_of events) x).moment = sym e ∙ moment_is in cc)

-- the rows of a state without a moment
pub told_none : (s : Following) → s.moment ≡ None → IsToldBehind s s.tracked
told_none s none target t events (inl stands) =
    let nothing : events ≡ [] = no_events s events none stands.moment_is in
    subst (λ (l : List Event). Tracks t s.tracked (stretch_of l)) (sym nothing) (subst (Tracks t s.tracked) (none_told s.pending) (subst (λ (l : List Event). Tracks t s.tracked (told_scrapes s.pending (stretch_of l))) nothing stands.tracks))
told_none s none target t events (inr stands) = stands.tracks

-- the last scrape of a stretch, and its page
last_scrape : (earlier : List Event) (e : Event) → scrape_of (without_info (page_of_outcome e.outcome)) (moment_of earlier e) ≡ stretch_scrape earlier e
unfolding stretch_scrape
last_scrape earlier e = refl

page_of_last : (earlier : List Event) (e : Event) → last_page (scrapes_of (e ∷ earlier)) ≡ page_of_outcome e.outcome
unfolding scrape_after
page_of_last earlier e = refl

-- rows that stand behind all scrapes of a stretch but the last, once they are told of that one as it is shown
told_of_last : (t : Tracking) (s : Following) (moment : ℕ) (starts : Starts) (k : Tracked) → HasDistinctKeys s.page → Advances s.tracked (without_info s.page) moment starts k → (events : List Event)
    → Tracks t s.tracked (told_scrapes true (stretch_of events)) → s.page ≡ shown_page (last_page (scrapes_of events)) → Some moment ≡ last_moment (scrapes_of events) → Tracks t k (stretch_of events)
told_of_last t s moment starts k once advances [] tracks page_is moment_is = absurd cc
told_of_last t s moment starts k once advances (e ∷ earlier) tracks page_is moment_is =
    let before : List Scrape = cond (goes_on earlier e) (stretch_of earlier) [] in
    let page : Page = page_of_outcome e.outcome in
    let m : moment ≡ moment_of earlier e = cc in
    let shown : scrape_of (without_info s.page) moment ≡ scrape_of (without_info (shown_page page)) (moment_of earlier e) =
    λ i. record { moment = m i; page = without_info ((page_is ∙ ap shown_page (page_of_last earlier e)) i) } in
    let own = (advances t before tracks (series_distinct s.page once)).1 in
    subst (λ (x : Scrape). Tracks t k (x ∷ before)) (last_scrape earlier e)
    (same_tracks t k (moment_of earlier e) before (without_info (shown_page page)) (without_info page) (shown_series page) (subst (λ (x : Scrape). Tracks t k (x ∷ before)) shown own))

pub told_late : (s : Following) (moment : ℕ) (starts : Starts) (k : Tracked) → s.pending ≡ true → s.moment ≡ Some moment → Advances s.tracked (without_info s.page) moment starts k → IsToldBehind s k
told_late s moment starts k pending at step target t events (inr stands) = absurd (let no : true ≡ false = sym pending ∙ stands.none_pending in cc)
told_late s moment starts k pending at step target t events (inl stands) =
    told_of_last t s moment starts k (stands.distinct pending) step events (subst (λ (b : Bool). Tracks t s.tracked (told_scrapes b (stretch_of events))) pending stands.tracks) stands.page_is (sym at ∙ stands.moment_is)

-- a tracker that is made of no rows
no_row : (t : Tracking) (key : SeriesKey) → None ≡ kept_row t key []
unfolding kept_row
no_row t key = go (has_points key.kind)
  where
    go : (b : Bool) → ◌≡◌ {A = Option Row} None (cond b None None)
    go true = refl
    go false = refl

nothing_kept : (t : Tracking) (k : Tracked) (rows : List Kept) (keep : ℕ) (honor : Bool) → keep ≡ t.keep → honor ≡ t.honor → rows ≡ [] → k ≡ record { keep = keep; honor = honor; rows = entries_of rows } → Tracks t k []
unfolding IsDistinct
nothing_kept t k rows keep honor keep_is honor_is none is =
    let made : k ≡ record { keep = t.keep; honor = t.honor; rows = [] } = is ∙ (λ i. record { keep = keep_is i; honor = honor_is i; rows = entries_of (none i) }) in
    subst (λ (x : Tracked). Tracks t x []) (sym made) (record { keep = refl; honor = refl; rows = no_row t; once = tt })

pub no_rows_kept : {E : Type 0} (r : Result Tracked E) (s : Following) (keep : ℕ) (honor : Bool) (rows : List Kept) → keep ≡ s.keep → honor ≡ s.target.honor → rows ≡ []
    → IfOk r (λ k. k ≡ record { keep = keep; honor = honor; rows = entries_of rows }) → IfOk r (λ k. (t : Tracking) → t.honor ≡ s.target.honor → s.keep ≡ t.keep → Tracks t k [])
no_rows_kept (Ok k) s keep honor rows keep_is honor_is none is = λ t own kept. nothing_kept t k rows keep honor (keep_is ∙ kept) (honor_is ∙ sym own) none is
no_rows_kept (Err e) s keep honor rows keep_is honor_is none is = tt

-- ---- steps

-- the scrape of an event in its stretch
now_is : (earlier : List Event) (e : Event) (series : Page) (moment : ℕ) → series ≡ without_info (page_of_outcome e.outcome) → moment ≡ moment_of earlier e → scrape_of series moment ≡ stretch_scrape earlier e
unfolding stretch_scrape
now_is earlier e series moment series_is at = λ i. record { moment = at i; page = series_is i }

-- the moment of an event behind those from which a state goes on
at_moment : (target : Scraped) (t : Tracking) (s : Following) (earlier : List Event) (e : Event) (outcome : Outcome) (moment : ℕ) → GoesOn target t s earlier → IsEventNext s.moment e outcome moment → moment ≡ moment_of earlier e
unfolding scrape_after
at_moment target t s earlier e outcome moment on is = is.moment_is ∙ ap (λ (m : Option ℕ). moment_after m e.reading) on.moment_is

-- the page that is kept behind an event
page_kept : (earlier : List Event) (e : Event) (page : Page) → page ≡ shown_page (page_of_outcome e.outcome) → page ≡ shown_page (last_page (scrapes_of (e ∷ earlier)))
unfolding scrape_after
page_kept earlier e page is = is

-- what is seen of an event, and the facts on it that all later steps have in common
record Stepped (target : Scraped) (t : Tracking) (s : Following) (earlier : List Event) (e : Event) (moment up : ℕ) (resource : LabelSet) (series page : Page) : Type 0 where
  on : GoesOn target t s earlier
  at : moment ≡ moment_of earlier e
  up_is : up ≡ up_of e.outcome
  resource_is : resource ≡ resource_attributes (e ∷ earlier)
  series_is : series ≡ without_info (page_of_outcome e.outcome)
  page_is : page ≡ shown_page (page_of_outcome e.outcome)
  distinct : HasDistinctKeys series

stepped : (target : Scraped) (t : Tracking) (s : Following) (earlier : List Event) (e : Event) (outcome : Outcome) (moment up : ℕ) (resource : LabelSet) (series page : Page)
    → GoesOnFrom target t s earlier → HasDistinctKeys (page_of_outcome e.outcome) → IsEventNext s.moment e outcome moment → IsSeen s.resource outcome up resource series page → Stepped target t s earlier e moment up resource series page
stepped target t s earlier e outcome moment up resource series page goes once is seen =
    let on = goes_on_from target t s earlier goes in
    let series_is : series ≡ without_info (page_of_outcome e.outcome) = seen.series_is ∙ ap (λ (o : Outcome). without_info (page_of_outcome o)) is.outcome_is in
    record {
      on = on;
      at = at_moment target t s earlier e outcome moment on is;
      up_is = seen.up_is ∙ ap up_of is.outcome_is;
      resource_is = seen.resource_is ∙ (λ i. attributes_after (on.resource_is i) (is.outcome_is i));
      series_is = series_is;
      page_is = seen.page_is ∙ ap (λ (o : Outcome). shown_page (page_of_outcome o)) is.outcome_is;
      distinct = subst HasDistinctKeys (sym series_is) (series_distinct (page_of_outcome e.outcome) once);
    }

-- the state behind a step
stands_next : (target : Scraped) (t : Tracking) (s : Following) (earlier : List Event) (e : Event) (moment up : ℕ) (resource : LabelSet) (series page : Page) (next : Tracked)
    → Stepped target t s earlier e moment up resource series page → Tracks t next (stretch_of (e ∷ earlier)) → StandsFor target t (next_state s resource next false page moment) (e ∷ earlier)
stands_next target t s earlier e moment up resource series page next step tracks = record {
  target_is = step.on.target_is;
  keep_is = step.on.keep_is;
  honor_is = step.on.honor_is;
  resource_is = step.resource_is;
  tracks = tracks;
  distinct = λ p. absurd (let no : false ≡ true = p in cc);
  page_is = page_kept earlier e page step.page_is;
  has_page = refl;
  moment_is = ap Some step.at;
}

-- an event that leaves the attributes as they were
pub within_steps : (s : Following) (e : Event) (outcome : Outcome) (moment up : ℕ) (resource : LabelSet) (series page : Page) (k next : Tracked) (tree : Request)
    → IsEventNext s.moment e outcome moment → IsSeen s.resource outcome up resource series page → IsToldBehind s k → label_sets_eq s.resource resource ≡ true → ReadsWithin s k moment up series tree next
    → Steps s e tree (next_state s resource next false page moment)
unfolding request_after stretch_scrape
within_steps s e outcome moment up resource series page k next tree is seen told same reads target t earlier goes once =
    let step = stepped target t s earlier e outcome moment up resource series page goes once is seen in
    let past = stretch_of earlier in
    let tracks : Tracks t k past = told target t earlier goes in
    let own = reads t past (honors target t s earlier step.on) tracks step.distinct in
    let on : goes_on earlier e ≡ true = sym (λ i. label_sets_eq (step.on.resource_is i) (step.resource_is i)) ∙ same in
    let attributes : s.resource ≡ resource_attributes (e ∷ earlier) = (sets_decide s.resource resource).0 same ∙ step.resource_is in
    let now = now_is earlier e series moment step.series_is step.at in
    let ms : missed_markers t s k.rows (lacks_some past series) moment series ≡ markers_at t past (stretch_scrape earlier e) = missed_marked target t s earlier k moment series step.on tracks ∙ ap (markers_at t past) now in
    let goes_within : request_after target t earlier e ≡ request_within target t earlier e = rw on refl in (
      own.0 ∙ (λ i. request_of (step.on.target_is i) (attributes i) (reading_place t past (now i).moment) (ms i) (now i).moment (step.up_is i) (now i).page []) ∙ sym goes_within,
      stands_next target t s earlier e moment up resource series page next step (rw on (subst (λ (x : Scrape). Tracks t next (x ∷ past)) now own.1)),
    )

-- an event that changes the attributes
pub anew_steps : (s : Following) (e : Event) (outcome : Outcome) (moment up : ℕ) (resource : LabelSet) (series page : Page) (k next : Tracked) (tree : Request)
    → IsEventNext s.moment e outcome moment → IsSeen s.resource outcome up resource series page → IsToldBehind s k → label_sets_eq s.resource resource ≡ false → ReadsAnew s k.rows moment up resource series tree next
    → Steps s e tree (next_state s resource next false page moment)
unfolding request_after stretch_scrape
anew_steps s e outcome moment up resource series page k next tree is seen told other reads target t earlier goes once =
    let step = stepped target t s earlier e outcome moment up resource series page goes once is seen in
    let tracks : Tracks t k (stretch_of earlier) = told target t earlier goes in
    let own = reads t (honors target t s earlier step.on) step.on.keep_is tracks.once step.distinct in
    let off : goes_on earlier e ≡ false = sym (λ i. label_sets_eq (step.on.resource_is i) (step.resource_is i)) ∙ other in
    let now = now_is earlier e series moment step.series_is step.at in
    let ms : lacked_markers t s k.rows moment empty_page ≡ markers_at t (stretch_of earlier) (closing_scrape earlier e) =
    lacked_marked target t s earlier k moment empty_page step.on tracks ∙ ap (λ (m : ℕ). markers_at t (stretch_of earlier) (scrape_of empty_page m)) step.at in
    let changes : request_after target t earlier e ≡ request_at_change target t earlier e = rw off refl in (
      own.0 ∙ (λ i. request_of (step.on.target_is i) (step.resource_is i) (reading_place t [] (step.at i)) [] (step.at i) (step.up_is i) (step.series_is i) (gone_part (step.on.target_is i) (step.on.resource_is i) (ms i))) ∙ sym changes,
      stands_next target t s earlier e moment up resource series page next step (rw off (subst (λ (x : Scrape). Tracks t next (x ∷ [])) now own.1)),
    )

-- ---- the first event

-- the tree of a first event
pub first_tree : (target : Scraped) (e : Event) (outcome : Outcome) (moment up : ℕ) (resource : LabelSet) (series page : Page) (tree : Request) → IsEventNext None e outcome moment → IsSeen [] outcome up resource series page
    → tree ≡ request_of target resource (first_place target.honor moment) [] moment up series [] → tree ≡ event_request target moment e.outcome
unfolding event_request
first_tree target e outcome moment up resource series page tree is seen tree_is =
    let o = is.outcome_is in
    tree_is ∙ (λ i. request_of target ((seen.resource_is ∙ ap (attributes_after []) o) i) (first_place target.honor moment) [] moment ((seen.up_is ∙ ap up_of o) i) ((seen.series_is ∙ ap (λ (x : Outcome). without_info (page_of_outcome x)) o) i) [])

-- the rows behind no events
no_rows : (target : Scraped) (t : Tracking) (s : Following) (earlier : List Event) → s.moment ≡ None → GoesOnFrom target t s earlier → (earlier ≡ []) × Tracks t s.tracked []
no_rows target t s earlier none goes =
    let nothing : earlier ≡ [] = no_events s earlier none (goes_on_from target t s earlier goes).moment_is in
    (nothing, subst (λ (l : List Event). Tracks t s.tracked (stretch_of l)) nothing (told_none s none target t earlier goes))

first_untold : (e : Event) → told_scrapes true (stretch_of (e ∷ [])) ≡ []
first_untold e = go (goes_on [] e)
  where
    go : (b : Bool) → ◌≡◌ {A = List Scrape} (cond b [] []) []
    go true = refl
    go false = refl

pub first_steps : (s : Following) (e : Event) (outcome : Outcome) (moment up : ℕ) (resource : LabelSet) (series page : Page) (tree : Request) → s.moment ≡ None → IsEventNext None e outcome moment → IsSeen [] outcome up resource series page
    → tree ≡ request_of s.target resource (first_place s.target.honor moment) [] moment up series [] → Steps s e tree (next_state s resource s.tracked true page moment)
unfolding scrape_after
first_steps s e outcome moment up resource series page tree none is seen tree_is target t earlier goes once =
    let on = goes_on_from target t s earlier goes in
    let both = no_rows target t s earlier none goes in
    let own : tree ≡ event_request s.target moment e.outcome = first_tree s.target e outcome moment up resource series page tree is seen tree_is in
    let page_is : page ≡ shown_page (page_of_outcome e.outcome) = seen.page_is ∙ ap (λ (o : Outcome). shown_page (page_of_outcome o)) is.outcome_is in
    subst (λ (l : List Event). (tree ≡ request_after target t l e) × StandsFor target t (next_state s resource s.tracked true page moment) (e ∷ l)) (sym both.0) (
      own ∙ (λ i. event_request (on.target_is i) (is.moment_is i) e.outcome) ∙ sym (empty_past target t e on.honor_is),
      record {
        target_is = on.target_is;
        keep_is = on.keep_is;
        honor_is = on.honor_is;
        resource_is = seen.resource_is ∙ ap (attributes_after []) is.outcome_is;
        tracks = subst (Tracks t s.tracked) (sym (first_untold e)) both.1;
        distinct = λ p. subst HasDistinctKeys (sym page_is) (shown_distinct (page_of_outcome e.outcome) once);
        page_is = page_is;
        has_page = refl;
        moment_is = ap Some is.moment_is;
      },
    )

-- ---- what is shown

pub latest_is : (s : Following) (target : Scraped) (t : Tracking) (events : List Event) → StandsFor target t s events → shown_by s ≡ latest_shown target events
unfolding latest_shown
latest_is s target t events stands = λ i. record {
  job = (stands.target_is i).job;
  instance = (stands.target_is i).instance;
  moment = stands.moment_is i;
  page = stands.page_is i;
}

-- ---- the markers of keys, one after the other

pub markers_more : (start : SeriesKey → Option ℕ) (moment : ℕ) (gone : List SeriesKey) (starts : List (Option ℕ)) (i : ℕ) (k key : SeriesKey) (own : Option ℕ)
    → i < length gone → k ≡ get_or gone i k → key ≡ k → own ≡ option_map (min moment) (get_or starts i None) → starts ≡ map start gone
    → map (marker_with start moment) (take i gone) ++ record { key = key; start = own; time = moment } ∷ [] ≡ map (marker_with start moment) (take (i + 1) gone)
unfolding marker_with
markers_more start moment gone starts i k key own within read same is are =
    let start_is : own ≡ option_map (min moment) (start k) = is ∙ ap (option_map (min moment)) (ap (λ l. get_or l i None) are ∙ get_or-map start gone i k None within ∙ ap start (sym read)) in
    (λ j. map (marker_with start moment) (take i gone) ++ record { key = same j; start = start_is j; time = moment } ∷ [])
    ∙ sym (map-append (marker_with start moment) (take i gone) (k ∷ [])) ∙ ap (map (marker_with start moment)) (sym (one_more gone i k within read))
