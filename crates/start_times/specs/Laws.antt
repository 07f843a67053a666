-- Laws of starts, times and rows. Each is proved, and a call of the crate stands for it.
-- The bridge's own.
use Rattle.std.specs.Prelude.{◌≡◌, ℕ, ◌+◌, ◌*◌, ◌<◌, ◌≤◌, true, false, List, [], ◌∷◌, ◌++◌, length, take, unwrap_or, Some, option_and_then, ⊤}
use Rattle.std.specs.List.{AllByRecursion}
use Rattle.label_sets.specs.declared.series_key.SeriesKey.{SeriesKey}
use Rattle.page_model.specs.declared.page.Reading.{Reading}
use Rattle.page_model.specs.Presence.{reading_at, is_present}
use Rattle.start_times.specs.Scrapes.{Scrape}
use Rattle.start_times.specs.Starts.{Tracking, Sight, has_points, time_of, time_at, last_taken, is_taken, differs, start_time, start_at, placed, created_at}
use Rattle.start_times.specs.Rows.{Tracked, Tracks, kept_row, row_now, placed_beside, older_row, most_readings}

-- a row is all that a reading's time and start need of a past
abbrev pub RowIsEnough : Type 0
RowIsEnough = (t : Tracking) (past : List Scrape) (moment : ℕ) (r : Reading) → has_points r.key.kind ≡ true
    → placed t past moment r ≡ placed_beside (kept_row t r.key past) (time_of t moment r) r

-- a scrape that has a series makes its row anew
abbrev pub RowOfSight : Type 0
RowOfSight = (t : Tracking) (now : Scrape) (past : List Scrape) (key : SeriesKey) (r : Reading) → has_points key.kind ≡ true → reading_at key now.page ≡ Some r
    → kept_row t key (now ∷ past) ≡ Some (row_now (kept_row t key past) (time_of t now.moment r) r)

-- a scrape that misses a series makes its row older, or ends it
abbrev pub RowOfMiss : Type 0
RowOfMiss = (t : Tracking) (now : Scrape) (past : List Scrape) (key : SeriesKey) → is_present key now.page ≡ false
    → kept_row t key (now ∷ past) ≡ option_and_then (older_row t.keep) (kept_row t key past)

-- without a past a series began when it was created, else with its reading
abbrev pub StartWithoutPast : Type 0
StartWithoutPast = (t : Tracking) (moment : ℕ) (r : Reading) → start_time t moment r [] ≡ unwrap_or (created_at (time_of t moment r) r) (time_of t moment r)

-- the rows are at most `keep + 1` times the most readings of a page
abbrev pub RowsAreFew : Type 0
RowsAreFew = (t : Tracking) (k : Tracked) (past : List Scrape) → Tracks t k past → length k.rows ≤ (t.keep + 1) * most_readings (take (t.keep + 1) past)

-- the start of a taken reading is never later than its time
abbrev pub StartIsNotLater : Type 0
StartIsNotLater = (t : Tracking) (moment : ℕ) (r : Reading) (past : List Scrape) → is_taken t moment r past ≡ true → start_time t moment r past ≤ time_of t moment r

-- between two breaks all points of a series have one start: a reading that differs in nothing from the one taken before it has the start of that one
abbrev pub StartStays : Type 0
StartStays = (t : Tracking) (moment : ℕ) (r : Reading) (past : List Scrape) (s : Sight) → last_taken t r.key past ≡ Some s → differs (time_at t s) s.reading (time_of t moment r) r ≡ false
    → start_time t moment r past ≡ start_at t s

-- where no more than `keep` scrapes missed a series since a reading of it was taken, that reading is the one last taken
abbrev pub TakenBehindMisses : Type 0
TakenBehindMisses = (t : Tracking) (old : Reading) (misses : List Scrape) (before : Scrape) (earlier : List Scrape) → AllByRecursion (λ (s : Scrape). is_present old.key s.page ≡ false) misses → length misses ≤ t.keep
    → reading_at old.key before.page ≡ Some old → is_taken t before.moment old earlier ≡ true
    → last_taken t old.key (misses ++ before ∷ earlier) ≡ Some (record { reading = old; moment = before.moment; before = earlier })

-- the moments of these scrapes rise, and stay below this one
abbrev pub RiseTo : ℕ → List Scrape → Type 0
RiseTo moment [] = ⊤
RiseTo moment (s ∷ past) = (s.moment < moment) × RiseTo s.moment past

-- where times of the page don't count, no reading is late
abbrev pub NoneIsLate : Type 0
NoneIsLate = (t : Tracking) (moment : ℕ) (r : Reading) (past : List Scrape) → t.honor ≡ false → RiseTo moment past → is_taken t moment r past ≡ true
