-- Where times of the page don't count: starts by the scrapes that have a series and their moments alone, and that the definitions with own
-- times say the same there.
-- OpenTelemetry metrics data model, "Resets and Gaps", "Cumulative streams: handling unknown start time".
use Rattle.std.specs.Prelude.{◌≡◌, ℕ, ◌+◌, Bool, true, false, List, [], ◌∷◌, find, take, unwrap_or, min, Option, Some, None, option_map, option_and_then, if◌then◌else◌}
use Rattle.std.specs.Option.{option_map_or}
use Rattle.label_sets.specs.declared.series_key.SeriesKey.{SeriesKey}
use Rattle.page_model.specs.declared.page.Reading.{Reading}
use Rattle.page_model.specs.Presence.{reading_at, is_present}
use Rattle.start_times.specs.declared.row.Placed.TheVariants.{At}
use Rattle.start_times.specs.Scrapes.{Scrape}
use Rattle.start_times.specs.Starts.{Tracking, has_points, has_start, created_at, differs, reading_place, start_there}
use Rattle.start_times.specs.Laws.{RiseTo}

-- the scrape of a past that last had the series, where no more than `keep` scrapes since then missed it
abbrev pub last_seen : Tracking → SeriesKey → List Scrape → Option Scrape
last_seen t key past = find (λ (s : Scrape). is_present key s.page) (take (t.keep + 1) past)

-- beside the scrape that last had it, where there is one, the series begins anew
abbrev pub is_plain_reset_beside : Option Scrape → ℕ → Reading → Bool
is_plain_reset_beside None moment r = true
is_plain_reset_beside (Some s) moment r = option_map_or (λ old. differs s.moment old moment r) (reading_at r.key s.page) true

-- a series that a scrape has begins anew there
abbrev pub is_plain_reset : Tracking → ℕ → Reading → List Scrape → Bool
is_plain_reset t moment r past = is_plain_reset_beside (last_seen t r.key past) moment r

-- the moment at which a series last began anew in a past; 0 where it never did
abbrev pub plain_last_reset : Tracking → SeriesKey → List Scrape → ℕ
plain_last_reset t key [] = 0
plain_last_reset t key (now ∷ past) = if option_map_or (λ r. is_plain_reset t now.moment r past) (reading_at key now.page) false then now.moment else plain_last_reset t key past

-- when the series of a reading began: when the page says that it was created, else when it last began anew
abbrev pub plain_start_time : Tracking → ℕ → Reading → List Scrape → ℕ
plain_start_time t moment r past = unwrap_or (created_at moment r) (if is_plain_reset t moment r past then moment else plain_last_reset t r.key past)

-- the start of the point of a reading, where its kind has starts
abbrev pub plain_reading_start : Tracking → List Scrape → ℕ → Reading → Option ℕ
plain_reading_start t past moment r = if has_start r.key.kind then Some (plain_start_time t moment r past) else None

-- the start that a series had at the last scrape of a past, where that has it and its kind has starts
abbrev pub plain_start_there : Tracking → List Scrape → SeriesKey → Option ℕ
plain_start_there t [] key = None
plain_start_there t (last ∷ before) key = option_and_then (plain_reading_start t before last.moment) (reading_at key last.page)

-- where times of the page don't count and moments rise, each reading with points has one at the moment of its scrape
abbrev pub PlainPlaces : Type 0
PlainPlaces = (t : Tracking) (moment : ℕ) (r : Reading) (past : List Scrape) → t.honor ≡ false → RiseTo moment past
    → reading_place t past moment r ≡ (if has_points r.key.kind then Some (At moment (plain_start_time t moment r past)) else None)

-- and a series that is gone had the start of the last scrape, which is never later than this moment
abbrev pub PlainStartsThere : Type 0
PlainStartsThere = (t : Tracking) (moment : ℕ) (key : SeriesKey) (past : List Scrape) → t.honor ≡ false → RiseTo moment past
    → option_map (min moment) (start_there t past key) ≡ plain_start_there t past key
