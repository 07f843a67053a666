-- What is kept of a target's series are few rows, whatever its scrapes were.
use Rattle.std.proofs.Common.{ℕ, zero, suc, ◌+◌, ◌*◌, ◌≤◌, Bool, true, false, cond, List, [], ◌∷◌, take, length, Option, sym, subst, inl, inr, arith}
use Rattle.std.specs.List.{AllByRecursion}
use Rattle.page_model.specs.declared.event.Event.{Event}
use Rattle.page_model.specs.Presence.{page_of_outcome}
use Rattle.page_model.specs.declared.page.Page.{Page}
use Rattle.start_times.specs.Scrapes.{Scrape}
use Rattle.start_times.specs.Rows.{reading_count, most_readings}
use Rattle.start_times.proofs.Laws.{rows_are_few}
use Rattle.writing_laws.proofs.Laws.{few_readings}
use Rattle.target_pages.specs.Stretches.{without_info, goes_on, stretch_scrape, stretch_of}
use Rattle.target_core.specs.States.{Following, StandsFor, told_scrapes}
use Rattle.target_pages.proofs.Laws.{series_are_read}
use Rattle.bridge_ports.specs.Talks.{Plan}
use Rattle.series_table.specs.declared.aim.Aim.{Aim}
use Rattle.series_table.specs.Talking.{Followed}
use Rattle.series_table.specs.Emission.{tracking_of}
use Rattle.series_table.specs.Records.{IsScrapedWithin, ArePagesWithin, most_rows}
use Rattle.series_table.specs.Making.{TookAtMostOne}
use Rattle.series_table.specs.Keeping.{followed_by}

-- the page of a scrape has at most so many readings
HasFewReadings : ℕ → Scrape → Type 0
HasFewReadings limit s = reading_count s.page ≤ limit

-- a page within a limit has few readings, also without what describes the target
few_of_series : (limit : ℕ) (page : Page) → IsScrapedWithin limit page → reading_count (without_info page) ≤ limit
unfolding without_info
few_of_series limit page within =
    let readings : reading_count (without_info page) ≤ page.samples = few_readings within.scraped.0 (without_info page) (series_are_read within.scraped.0 page within.scraped.2) in
    let samples = within.few in
    omega (arith, readings, samples)

few_of_stretch : (f : Followed) (events : List Event) → ArePagesWithin f events → AllByRecursion (HasFewReadings f.settings.limit) (stretch_of events)
unfolding HasFewReadings stretch_scrape
few_of_stretch f [] within = tt
few_of_stretch f (e ∷ earlier) within = (few_of_series f.settings.limit (page_of_outcome e.outcome) within.0, before (goes_on earlier e) (few_of_stretch f earlier within.1))
  where
    before : (b : Bool) → AllByRecursion (HasFewReadings f.settings.limit) (stretch_of earlier) → AllByRecursion (HasFewReadings f.settings.limit) (cond b (stretch_of earlier) [])
    before true few = few
    before false few = tt

few_told : (limit : ℕ) (pending : Bool) (past : List Scrape) → AllByRecursion (HasFewReadings limit) past → AllByRecursion (HasFewReadings limit) (told_scrapes pending past)
few_told limit false past few = few
few_told limit true [] few = tt
few_told limit true (s ∷ past) few = few.1

few_of_front : (limit n : ℕ) (past : List Scrape) → AllByRecursion (HasFewReadings limit) past → most_readings (take n past) ≤ limit
unfolding HasFewReadings
few_of_front limit zero past few = omega arith
few_of_front limit (suc n) [] few = omega arith
few_of_front limit (suc n) (s ∷ past) few =
    let here : reading_count s.page ≤ limit = few.0 in
    let rest : most_readings (take n past) ≤ limit = few_of_front limit n past few.1 in
    omega (arith, here, rest)

times_more : (k m n : ℕ) → m ≤ n → k * m ≤ k * n
times_more zero m n le = omega arith
times_more (suc k) m n le = let rest = times_more k m n le in omega (arith, rest, le)

-- behind events whose pages are within the limit
pub few_rows_behind : (f : Followed) (s : Following) (events : List Event) → StandsFor f.target (tracking_of f) s events → ArePagesWithin f events → length s.tracked.rows ≤ most_rows f.settings
few_rows_behind f s events stands within =
    let past : List Scrape = told_scrapes s.pending (stretch_of events) in
    let rows : length s.tracked.rows ≤ (f.settings.keep + 1) * most_readings (take (f.settings.keep + 1) past) = rows_are_few (tracking_of f) s.tracked past stands.tracks in
    let front : most_readings (take (f.settings.keep + 1) past) ≤ f.settings.limit =
    few_of_front f.settings.limit (f.settings.keep + 1) past (few_told f.settings.limit s.pending (stretch_of events) (few_of_stretch f events within)) in
    let most : (f.settings.keep + 1) * most_readings (take (f.settings.keep + 1) past) ≤ (f.settings.keep + 1) * f.settings.limit = times_more (f.settings.keep + 1) (most_readings (take (f.settings.keep + 1) past)) f.settings.limit front in
    omega (arith, rows, most)

-- also where a state took one event more, or none
pub few_rows_kept : (aim : Aim) (scrape_plan post_plan : Option Plan) (s t : Following) (events : List Event) → length s.tracked.rows ≤ most_rows aim.settings
    → StandsFor aim.target (tracking_of (followed_by aim scrape_plan post_plan)) s events → ArePagesWithin (followed_by aim scrape_plan post_plan) events → TookAtMostOne aim s t → length t.tracked.rows ≤ most_rows aim.settings
few_rows_kept aim scrape_plan post_plan s t events few stands within (inl same) = subst (λ (x : Following). length x.tracked.rows ≤ most_rows aim.settings) (sym same) few
few_rows_kept aim scrape_plan post_plan s t events few stands within (inr took) =
    few_rows_behind (followed_by aim scrape_plan post_plan) t (took.0 ∷ events) (took.2 (tracking_of (followed_by aim scrape_plan post_plan)) events stands) (took.1, within)
