-- What the steps over a whole page give together.
use Rattle.std.proofs.Common.{◌≡◌, ℕ, Bool, false, List, [], ◌∷◌, map, zip, length, replicate, filter, Option, sym, ap, subst, ◌∙◌}
use Rattle.std.specs.List.{flat_map, list_any, filter_map}
use Rattle.std.proofs.lemmas.Map.Made.{keys_of-zip}
use Rattle.label_sets.specs.declared.series_key.SeriesKey.{SeriesKey}
use Rattle.page_model.specs.declared.page.Family.{Family}
use Rattle.page_model.specs.declared.page.Page.{Page}
use Rattle.page_model.specs.Presence.{all_readings}
use Rattle.start_times.specs.declared.row.Row.{Row}
use Rattle.start_times.specs.declared.row.Placed.{Placed}
use Rattle.start_times.specs.declared.sighting.Sighting.{Sighting}
use Rattle.start_times.specs.Scrapes.{Scrape}
use Rattle.start_times.specs.Starts.{Tracking, reading_place}
use Rattle.start_times.specs.Rows.{Tracked, Tracks}
use Rattle.start_times.specs.Filling.{Filled, with_entries}
use Rattle.start_times.specs.Sightings.{Saw, Sees, is_kept_reading, is_read, is_first_miss, missed_entry}
use Rattle.start_times.specs.Advancing.{HasDistinctKeys, scrape_of, lacks_some}
use Rattle.start_times.proofs.Sights.{saw_nothing}
use Rattle.start_times.proofs.Advance.{advanced}
use Rattle.start_times.proofs.Missed.{lacks_is}

pub page_advanced : (t : Tracking) (past : List Scrape) (keep : ℕ) (honor : Bool) (keys : List SeriesKey) (rows : List Row) (k : Tracked) (page : Page) (moment : ℕ) (families : List Family) (first seen : Sighting) (found : List Bool)
    (entries : Filled) (told : Bool) (after : Tracked) (starts : List (Option Placed)) (misses : Bool) → record { keep = keep; honor = honor; rows = zip keys rows } ≡ k → length keys ≡ length rows → families ≡ page.families
    → first.starts.items ≡ [] → first.entries ≡ record { before = keys; list = [] } → first.found.items ≡ replicate (length keys) false → Sees honor (zip keys rows) moment (flat_map (λ (f : Family). f.readings) families) first seen → found ≡ seen.found.items
    → ((present : SeriesKey → Bool) → found ≡ map present keys → seen.entries.before ≡ keys → entries ≡ with_entries seen.entries (filter_map (missed_entry keep present) (zip keys rows)))
    → ((present : SeriesKey → Bool) → found ≡ map present keys → told ≡ list_any (is_first_miss present) (zip keys rows))
    → after.keep ≡ keep → after.honor ≡ honor → after.rows ≡ entries.list → starts ≡ seen.starts.items → misses ≡ told → Tracks t k past → HasDistinctKeys page
    → (starts ≡ map (reading_place t past moment) (all_readings page)) × Tracks t after (scrape_of page moment ∷ past) × (misses ≡ lacks_some past page)
page_advanced t past keep honor keys rows k page moment families first seen found entries told after starts misses view even families_is none nobody unmarked sees found_is kept tells keep_is honor_is rows_is starts_is misses_is tracks distinct =
    let own : Tracked = record { keep = keep; honor = honor; rows = zip keys rows } in
    let stands : Tracks t own past = subst (λ (x : Tracked). Tracks t x past) (sym view) tracks in
    let before : Saw honor (zip keys rows) moment [] first = saw_nothing honor (zip keys rows) moment keys first (sym (keys_of-zip keys rows (sym even))) none nobody unmarked in
    let all : Sees honor (zip keys rows) moment (all_readings page) first seen = subst (λ (fs : List Family). Sees honor (zip keys rows) moment (flat_map (λ (f : Family). f.readings) fs) first seen) families_is sees in
    let saw : Saw honor (zip keys rows) moment (all_readings page) seen = all stands.once [] before in
    let present = is_read (filter is_kept_reading (all_readings page)) in
    let marks : found ≡ map present keys = found_is ∙ (saw.found ∙ ap (map present) (keys_of-zip keys rows (sym even))) in
    let one = advanced t own after past page moment starts seen stands distinct saw starts_is keep_is honor_is (rows_is ∙ ap (λ (f : Filled). f.list) (kept present marks (ap (λ (f : Filled). f.before) saw.entries ∙ keys_of-zip keys rows (sym even)))) in
    (one.0, one.1, misses_is ∙ (tells present marks ∙ lacks_is t own past page stands))
