-- Series with their rows that are put in one by one.
-- The bridge's own.
use Rattle.std.specs.Prelude.{◌≡◌, ℕ, ◌<◌, List, [], ◌++◌, length, take, Option, Some, IfSome, slice_get}
use Rattle.label_sets.specs.declared.series_key.SeriesKey.{SeriesKey}
use Rattle.start_times.specs.declared.row.Row.{Row}

-- the series of a list before, and those that were put in, with their rows
pub record Filled : Type 0 where
  pub before : List SeriesKey
  pub list : List (SeriesKey × Row)

-- none put in yet
abbrev pub none_behind : List SeriesKey → Filled
none_behind before = record { before = before; list = [] }

-- others behind them
abbrev pub with_entries : Filled → List (SeriesKey × Row) → Filled
with_entries f es = record { before = f.before; list = f.list ++ es }

-- the key stands at this place of a list, where one is told
abbrev pub IsKeyAt : List SeriesKey → Option ℕ → SeriesKey → Type 0
IsKeyAt keys at key = IfSome at (λ place. slice_get keys place ≡ Some key)

-- so many of the first keys of a list, and those of its own behind them
abbrev pub joined : List SeriesKey → ℕ → List SeriesKey → List SeriesKey
joined before shared own = take shared before ++ own

-- where there are keys of its own, none is shared
abbrev pub IsUnshared : ℕ → List SeriesKey → Type 0
IsUnshared shared own = 0 < length own → shared ≡ 0
