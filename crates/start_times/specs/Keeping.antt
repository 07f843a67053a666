-- The rows of a tracker as a list in the order of keys, and the rows that a past keeps.
-- The bridge's own.
use Rattle.std.specs.Prelude.{◌≡◌, ◌+◌, List, [], ◌∷◌, map, find, filter_map, take, Option, option_map, if◌then◌else◌}
use Rattle.std.specs.List.{IsDistinct, flat_map}
use Rattle.std.specs.List.Sorted.{IsStrictlySortedBy}
use Rattle.std.specs.Map.{lookup}
use Rattle.std.specs.Ordering.{is_lt}
use Rattle.std.specs.declared.cmp.Ordering.{Ordering}
use Rattle.label_sets.specs.declared.series_key.SeriesKey.{SeriesKey}
use Rattle.label_sets.specs.Keys.{key_eq, key_cmp}
use Rattle.label_sets.specs.Lists.{first_of_each}
use Rattle.page_model.specs.Presence.{keys_of}
use Rattle.start_times.specs.declared.row.Row.{Row}
use Rattle.start_times.specs.declared.row.Kept.{Kept}
use Rattle.start_times.specs.Scrapes.{Scrape}
use Rattle.start_times.specs.Starts.{Tracking}
use Rattle.start_times.specs.Rows.{Tracked, Tracks, kept_row}

-- ---- rows as a list

-- the row that is kept of a series, where one is
abbrev pub row_in : SeriesKey → List Kept → Option Row
row_in key rows = option_map (λ (k : Kept). k.row) (find (λ (k : Kept). key_eq key k.key) rows)

-- the order of rows: that of their keys
abbrev pub by_key : Kept → Kept → Ordering
by_key a b = key_cmp a.key b.key

-- the rows as entries of a tracker
abbrev pub entries_of : List Kept → List (SeriesKey × Row)
entries_of rows = map (λ (k : Kept). (k.key, k.row)) rows

-- these are the entries, in the order of their keys, where no key stands twice
abbrev pub IsSortedListOf : List (SeriesKey × Row) → List Kept → Type 0
IsSortedListOf entries rows = IsDistinct key_eq (map (λ e. e.0) entries) → IsStrictlySortedBy by_key rows × ((key : SeriesKey) → row_in key rows ≡ lookup (key_eq key) entries)

-- these are the rows of the tracker, in the order of their keys
pub record AreRowsOf (k : Tracked) (rows : List Kept) : Type 0 where
  pub sorted : IsStrictlySortedBy by_key rows
  pub same : (key : SeriesKey) → row_in key rows ≡ lookup (key_eq key) k.rows

-- ---- the rows of a past

-- a key in its place among keys that rise
abbrev pub key_inserted : SeriesKey → List SeriesKey → List SeriesKey
key_inserted key [] = key ∷ []
key_inserted key (k ∷ ks) = if is_lt (key_cmp key k) then key ∷ k ∷ ks else k ∷ key_inserted key ks

-- keys in their order
abbrev pub keys_sorted : List SeriesKey → List SeriesKey
keys_sorted [] = []
keys_sorted (key ∷ keys) = key_inserted key (keys_sorted keys)

-- the series that the last `keep + 1` scrapes had, each once, in the order of keys
abbrev pub keys_seen : Tracking → List Scrape → List SeriesKey
keys_seen t past = keys_sorted (first_of_each key_eq (flat_map (λ (s : Scrape). keys_of s.page) (take (t.keep + 1) past)))

-- a series with the row that is kept of it
abbrev pub kept_series : Tracking → List Scrape → SeriesKey → Option Kept
kept_series t past key = option_map (λ row. record { key = key; row = row }) (kept_row t key past)

-- the rows that are kept of a past, in the order of keys
unfoldable pub rows_of_past : Tracking → List Scrape → List Kept
rows_of_past t past = filter_map (kept_series t past) (keys_seen t past)

-- ---- laws

-- the rows of a tracker, as a list in the order of keys, are those that its past keeps
abbrev pub RowsAreThosePast : Type 0
RowsAreThosePast = (t : Tracking) (k : Tracked) (past : List Scrape) (rows : List Kept) → Tracks t k past → AreRowsOf k rows → rows ≡ rows_of_past t past

-- a tracker made of the rows of another one stands for each past for which that one stands
abbrev pub RowsTrackAgain : Type 0
RowsTrackAgain = (t : Tracking) (k again : Tracked) (past : List Scrape) (rows : List Kept) → Tracks t k past → AreRowsOf k rows
    → again ≡ record { keep = k.keep; honor = k.honor; rows = entries_of rows } → Tracks t again past
