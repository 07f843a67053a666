-- The parts of a state, and the state that parts give.
use Rattle.std.proofs.Common.{◌≡◌, ℕ, Bool, false, List, [], ◌∷◌, map, Option, Some, refl, sym, ap, subst, ◌∙◌}
use Rattle.std.specs.List.{IsDistinct}
use Rattle.std.specs.Map.{keys_of as row_keys}
use Rattle.label_sets.specs.declared.label_set.LabelSet.{LabelSet}
use Rattle.label_sets.specs.declared.series_key.SeriesKey.{SeriesKey}
use Rattle.label_sets.specs.Keys.{key_eq}
use Rattle.page_model.specs.declared.page.Page.{Page}
use Rattle.page_model.specs.Presence.{empty_page}
use Rattle.start_times.specs.declared.row.Kept.{Kept}
use Rattle.start_times.specs.Starts.{Tracking}
use Rattle.start_times.specs.Rows.{Tracked, Tracks}
use Rattle.start_times.specs.Keeping.{AreRowsOf, entries_of, rows_of_past}
use Rattle.start_times.proofs.Laws.{rows_are_those_of_past, row_in_entries, row_of_past, distinct_rows, past_ascends}
use Rattle.staleness.specs.declared.marks.Mark.{Mark}
use Rattle.bridge_ports.specs.Targets.{Scraped}
use Rattle.target_core.specs.declared.parts.Parts.{Parts}
use Rattle.target_pages.specs.Stretches.{without_info, stretch_of}
use Rattle.target_core.specs.States.{Following}
use Rattle.target_core.specs.Stepping.{IsToldBehind, marks_held}
use Rattle.target_core.specs.Keeping.{kept_behind, HasRows, HasParts, TakesUp, PartsAreTheirs}
use Rattle.target_core.proofs.Stepping.{goes_on_from, honors}

-- ---- the parts of events are parts of them

keys_of_entries : (rows : List Kept) → row_keys (entries_of rows) ≡ map (λ (k : Kept). k.key) rows
keys_of_entries [] = refl
keys_of_entries (k ∷ rows) = ap (λ (ks : List SeriesKey). k.key ∷ ks) (keys_of_entries rows)

pub parts_are_theirs : PartsAreTheirs
unfolding kept_behind
parts_are_theirs t events =
    let past = stretch_of events in
    record {
      moment_is = refl;
      resource_is = refl;
      rows_are = row_of_past t past;
      rows_once = subst (IsDistinct key_eq) (keys_of_entries (rows_of_past t past)) (distinct_rows (rows_of_past t past) (past_ascends t past));
      marks_are = refl;
    }

-- ---- the parts of a state

pub rows_kept : (s : Following) (k : Tracked) (rows : List Kept) → IsToldBehind s k → (IsDistinct key_eq (row_keys k.rows) → AreRowsOf k rows) → HasRows s rows
rows_kept s k rows told are target t events goes =
    let tracks : Tracks t k (stretch_of events) = told target t events goes in
    rows_are_those_of_past t k (stretch_of events) rows tracks (are tracks.once)

pub parts_kept : (s : Following) (moment : Option ℕ) (resource : LabelSet) (rows : List Kept) (marks : List Mark) → HasRows s rows
    → ((t : Tracking) → t.honor ≡ s.target.honor → marks ≡ marks_held t s.marks (without_info s.page)) → moment ≡ s.moment → resource ≡ s.resource
    → HasParts s (record { moment = moment; resource = resource; rows = rows; marks = marks })
unfolding kept_behind
parts_kept s moment resource rows marks own held moment_is resource_is target t events goes =
    let on = goes_on_from target t s events goes in
    λ i. record {
      moment = (moment_is ∙ on.moment_is) i;
      resource = (resource_is ∙ on.resource_is) i;
      rows = own target t events goes i;
      marks = (held t (honors target t s events on) ∙ on.marks_are) i;
    }

-- ---- the state that parts give

pub taken_up : (target : Scraped) (keep : ℕ) (parts : Parts) (honor : Bool) (tracker : Tracked) (page : Page) → honor ≡ target.honor → tracker ≡ record { keep = keep; honor = honor; rows = entries_of parts.rows } → page ≡ empty_page
    → (t : Tracking) → t.keep ≡ keep → t.honor ≡ target.honor
    → TakesUp target t parts (record { target = target; keep = keep; resource = parts.resource; tracked = tracker; pending = false; page = page; marks = Some parts.marks; moment = parts.moment })
taken_up target keep parts honor tracker page same is page_is t keep_is honor_is events are =
    let rows : Tracks t (record { keep = keep; honor = honor; rows = entries_of parts.rows }) (stretch_of events) = record {
      keep = sym keep_is;
      honor = same ∙ sym honor_is;
      rows = λ key. sym (row_in_entries key parts.rows) ∙ are.rows_are key;
      once = subst (IsDistinct key_eq) (sym (keys_of_entries parts.rows)) are.rows_once;
    } in
    record {
      target_is = refl;
      keep_is = sym keep_is;
      honor_is = honor_is;
      resource_is = are.resource_is;
      tracks = subst (λ (k : Tracked). Tracks t k (stretch_of events)) (sym is) rows;
      none_pending = refl;
      page_is = page_is;
      marks_are = ap Some are.marks_are;
      moment_is = are.moment_is;
    }
