-- What one page makes of the rows, reading by reading.
-- The bridge's own.
use Rattle.std.specs.Prelude.{◌≡◌, ℕ, ◌==◌, Bool, false, not, ◌&&◌, List, ◌++◌, map, zip, filter, filter_map, Option, Some, None, option_map, if◌then◌else◌}
use Rattle.std.specs.List.{IsDistinct, list_any}
use Rattle.std.specs.Option.{option_to_list}
use Rattle.std.specs.Map.{lookup, keys_of}
use Rattle.label_sets.specs.declared.series_key.SeriesKey.{SeriesKey}
use Rattle.label_sets.specs.Keys.{key_eq}
use Rattle.page_model.specs.declared.page.Reading.{Reading}
use Rattle.start_times.specs.declared.row.Row.{Row}
use Rattle.start_times.specs.declared.row.Placed.{Placed}
use Rattle.start_times.specs.declared.sighting.Sighting.{Sighting}
use Rattle.start_times.specs.Starts.{has_points, time_where}
use Rattle.start_times.specs.Rows.{placed_beside, row_now, older_row}
use Rattle.start_times.specs.Filling.{Filled, with_entries}

-- what a reading gives beside these rows, where its kind has points
unfoldable pub placed_in : Bool → List (SeriesKey × Row) → ℕ → Reading → Option Placed
placed_in honor rows moment r = if has_points r.key.kind then Some (placed_beside (lookup (key_eq r.key) rows) (time_where honor moment r) r) else None

-- its kind has points, so that a row is kept of its series
abbrev pub is_kept_reading : Reading → Bool
is_kept_reading r = has_points r.key.kind

-- a series with the row that its reading makes beside these rows
abbrev pub sighted_entry : Bool → List (SeriesKey × Row) → ℕ → Reading → SeriesKey × Row
sighted_entry honor rows moment r = (r.key, row_now (lookup (key_eq r.key) rows) (time_where honor moment r) r)

-- the series has one of these readings
abbrev pub is_read : List Reading → SeriesKey → Bool
is_read rs key = list_any (key_eq key) (map (λ (r : Reading). r.key) rs)

-- these readings were seen: what they give, the rows that they make, and which of the rows before they are of
pub record Saw (honor : Bool) (rows : List (SeriesKey × Row)) (moment : ℕ) (rs : List Reading) (s : Sighting) : Type 0 where
  pub starts : s.starts.items ≡ map (placed_in honor rows moment) rs
  pub entries : s.entries ≡ record { before = keys_of rows; list = map (sighted_entry honor rows moment) (filter is_kept_reading rs) }
  pub found : s.found.items ≡ map (is_read (filter is_kept_reading rs)) (keys_of rows)

-- behind each readings that were seen: these were seen too, where no series has two rows
abbrev pub Sees : Bool → List (SeriesKey × Row) → ℕ → List Reading → Sighting → Sighting → Type 0
Sees honor rows moment rs before after = IsDistinct key_eq (keys_of rows) → (front : List Reading) → Saw honor rows moment front before → Saw honor rows moment (front ++ rs) after

-- a series with its row one scrape later, where that misses it and the row is kept
abbrev pub missed_entry : ℕ → (SeriesKey → Bool) → SeriesKey × Row → Option (SeriesKey × Row)
missed_entry keep is_present_now e = if is_present_now e.0 then None else option_map (λ row. (e.0, row)) (older_row keep e.1)

-- the same of one that is missed, as a list
abbrev pub missed_entries : ℕ → SeriesKey × Row → List (SeriesKey × Row)
missed_entries keep e = option_to_list (missed_entry keep (λ _. false) e)

-- behind entries that are put behind these series stand those that were missed, where the marks say which series are present
abbrev pub KeepsMissed : ℕ → List SeriesKey → List Row → List Bool → Filled → Filled → Type 0
KeepsMissed keep keys rows found before after = (present : SeriesKey → Bool) → found ≡ map present keys → before.before ≡ keys
    → after ≡ with_entries before (filter_map (missed_entry keep present) (zip keys rows))

-- a series is not present, and is missed for the first time: its row is of age 0
abbrev pub is_first_miss : (SeriesKey → Bool) → SeriesKey × Row → Bool
is_first_miss is_present_now e = not (is_present_now e.0) && e.1.age == 0

-- some series is missed for the first time, where the marks say which series are present
abbrev pub TellsMisses : List SeriesKey → List Row → List Bool → Bool → Type 0
TellsMisses keys rows found misses = (present : SeriesKey → Bool) → found ≡ map present keys → misses ≡ list_any (is_first_miss present) (zip keys rows)
