-- Two lists of keys without those that stand in both (the bridge's own).
use Rattle.std.specs.Prelude.{◌≡◌, ℕ, Bool, false, ◌||◌, List, [], ◌∷◌, ◌++◌, filter, map, take}
use denote.Ref.{Bor}
use Rattle.std.specs.List.{IsDistinct, AllByRecursion, list_any}
use Rattle.label_sets.specs.declared.series_key.SeriesKey.{SeriesKey}
use Rattle.label_sets.specs.Keys.{key_eq}

-- the keys that are referred to
abbrev pub keys_behind : List (Bor SeriesKey) → List SeriesKey
keys_behind refs = map (λ r. r.now) refs

-- the key is one of these
abbrev pub is_among : List SeriesKey → SeriesKey → Bool
is_among keys key = list_any (key_eq key) keys

-- what is left of two lists of keys where some keys, which stand in both, were taken away: the others are left, in order; and where no key
-- is asked for twice, none is left that was taken away
pub record IsParted (asked keys strays left : List SeriesKey) : Type 0 where
  pub taken : List SeriesKey
  pub asked_are : (key : SeriesKey) → is_among asked key ≡ (is_among strays key || is_among taken key)
  pub keys_are : (key : SeriesKey) → is_among keys key ≡ (is_among left key || is_among taken key)
  pub in_order : (test : SeriesKey → Bool) → AllByRecursion (λ key. test key ≡ false) taken → filter test asked ≡ filter test strays
  pub apart : IsDistinct key_eq asked → AllByRecursion (λ key. is_among taken key ≡ false) strays

-- how far keys are parted: up to a place among them, and what is left of both lists
pub record PartedTo : Type 0 where
  pub place : ℕ
  pub strays : List SeriesKey
  pub left : List SeriesKey

-- keys are parted up to this place, with these left
abbrev pub parted_to : ℕ → List SeriesKey → List SeriesKey → PartedTo
parted_to place strays left = record { place = place; strays = strays; left = left }

-- the keys that are asked for are parted from the keys so far
abbrev pub ArePartedTo : List (Bor SeriesKey) → List SeriesKey → PartedTo → Type 0
ArePartedTo keys asked so_far = IsParted asked (take so_far.place (keys_behind keys)) so_far.strays so_far.left

-- keys that were asked for and are parted so far are parted further once this one is asked for behind them
abbrev pub PartsOneMore : List (Bor SeriesKey) → SeriesKey → PartedTo → PartedTo → Type 0
PartsOneMore keys key so_far further = (asked : List SeriesKey) → ArePartedTo keys asked so_far → ArePartedTo keys (asked ++ key ∷ []) further
