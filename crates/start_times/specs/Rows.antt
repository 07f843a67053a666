-- What is kept of each series, and which pasts it stands for.
-- OpenTelemetry metrics data model, "Cumulative streams: handling unknown start time". What is kept is the bridge's own.
use Rattle.std.specs.Prelude.{◌≡◌, ℕ, ◌+◌, Bool, true, not, ◌||◌, List, [], ◌∷◌, map, length, unwrap_or, Option, Some, None, option_map, option_and_then, nat_le, nat_lt, nat_eq, max, if◌then◌else◌}
use Rattle.std.specs.Option.{option_eq}
use Rattle.std.specs.List.{IsDistinct}
use Rattle.std.specs.Map.{lookup}
use Rattle.label_sets.specs.declared.series_key.SeriesKey.{SeriesKey}
use Rattle.label_sets.specs.Keys.{key_eq}
use Rattle.page_model.specs.declared.page.Page.{Page}
use Rattle.page_model.specs.declared.page.Reading.{Reading}
use Rattle.page_model.specs.Presence.{all_readings, is_present}
use Rattle.start_times.specs.declared.row.Row.{Row}
use Rattle.start_times.specs.declared.row.Placed.{Placed}
use Rattle.start_times.specs.declared.row.Placed.TheVariants.{Late, At}
use Rattle.start_times.specs.Scrapes.{Scrape}
use Rattle.start_times.specs.Starts.{Tracking, has_points, has_start, Sight, time_at, start_at, last_taken, created_at, last_of, falls}

-- a tracker as its contracts see it: over how many misses it keeps a row, whether times of the page count, and the row of each series
pub record Tracked : Type 0 where
  pub keep : ℕ
  pub honor : Bool
  pub rows : List (SeriesKey × Row)

-- ---- the row of a series

-- the row of a reading at the place where its series was last taken, and so many scrapes since the series was last there missed it
unfoldable pub row_of : Tracking → ℕ → Sight → Row
row_of t age s = record { start = start_at t s; created = created_at (time_at t s) s.reading; time = time_at t s; last = last_of s.reading.value; age = age }

-- the row of a series behind so many scrapes that missed it: where it was last taken, unless more than `keep` missed it
abbrev pub row_behind : Tracking → SeriesKey → ℕ → List Scrape → Option Row
row_behind t key age [] = None
row_behind t key age (s ∷ past) =
    if is_present key s.page then (if nat_le age t.keep then option_map (row_of t age) (last_taken t key (s ∷ past)) else None) else row_behind t key (age + 1) past

-- the row that is kept of a series, where its kind has points
unfoldable pub kept_row : Tracking → SeriesKey → List Scrape → Option Row
kept_row t key past = if has_points key.kind then row_behind t key 0 past else None

-- ---- times and starts from rows

-- a time is later than that of the row, where there is one
abbrev pub is_later_than : Option Row → ℕ → Bool
is_later_than None time = true
is_later_than (Some row) time = nat_lt row.time time

-- beside the row that is kept of it a series begins anew
unfoldable pub is_reset_since : Row → ℕ → Reading → Bool
is_reset_since row time r = falls r.key.kind row.last (last_of r.value) || not (option_eq nat_eq row.created (created_at time r))

-- when a series last began anew, beside the row that is kept of it
abbrev pub reset_since : Option Row → ℕ → Reading → ℕ
reset_since None time r = time
reset_since (Some row) time r = if is_reset_since row time r then time else row.start

-- when a series began, beside the row that is kept of it
unfoldable pub start_beside : Option Row → ℕ → Reading → ℕ
start_beside row time r = unwrap_or (created_at time r) (reset_since row time r)

-- what a reading gives, beside the row that is kept of its series
unfoldable pub placed_beside : Option Row → ℕ → Reading → Placed
placed_beside row time r = if is_later_than row time then At time (start_beside row time r) else Late

-- the row of a reading that is taken, beside the row that is kept of its series
unfoldable pub taken_row : Option Row → ℕ → Reading → Row
taken_row row time r = record { start = start_beside row time r; created = created_at time r; time = time; last = last_of r.value; age = 0 }

-- the same row at another age
unfoldable pub row_at_age : Row → ℕ → Row
row_at_age row age = record { start = row.start; created = row.created; time = row.time; last = row.last; age = age }

-- the row of a series that a scrape has, beside the one that is kept of it: that of its reading where this is taken, else the same at age 0
abbrev pub row_now : Option Row → ℕ → Reading → Row
row_now None time r = taken_row None time r
row_now (Some row) time r = if nat_lt row.time time then taken_row (Some row) time r else row_at_age row 0

-- the start of a row, where the kind of its series has starts
abbrev pub row_start : SeriesKey → Row → Option ℕ
row_start key row = if has_start key.kind then Some row.start else None

-- the row one scrape later, where that misses the series
unfoldable pub older_row : ℕ → Row → Option Row
older_row keep row = if nat_le (row.age + 1) keep then Some (row_at_age row (row.age + 1)) else None

-- ---- what a tracker stands for

-- the tracker has a row for each series whose kind has points and that no more than `keep` of the last scrapes missed, and no other
pub record Tracks (t : Tracking) (k : Tracked) (past : List Scrape) : Type 0 where
  pub keep : k.keep ≡ t.keep
  pub honor : k.honor ≡ t.honor
  pub rows : (key : SeriesKey) → lookup (key_eq key) k.rows ≡ kept_row t key past
  pub once : IsDistinct key_eq (map (λ e. e.0) k.rows)

-- the start that is kept of a series, where its kind has starts
abbrev pub kept_start : List (SeriesKey × Row) → SeriesKey → Option ℕ
kept_start rows key = option_and_then (row_start key) (lookup (key_eq key) rows)

-- how many readings a page has
abbrev pub reading_count : Page → ℕ
reading_count page = length (all_readings page)

-- the most readings that a page of these scrapes has
abbrev pub most_readings : List Scrape → ℕ
most_readings [] = 0
most_readings (s ∷ past) = max (reading_count s.page) (most_readings past)
