-- What the emitters are with one byte more.
-- The bridge's own.
use Rattle.std.specs.Prelude.{◌≡◌, ℕ, ◌+◌, ◌-◌, ◌^◌, ◌≤◌, min, Bool, false, List, [], ◌∷◌, ◌++◌, length, take}

-- a count with one byte more, which stops at the greatest number of 64 bits
abbrev pub count_push : ℕ → ℕ → ℕ
count_push count byte = min (count + 1) (2 ^ 64 - 1)

-- bytes to which a text is appended, and how many stood there before it
pub record Appended : Type 0 where
  pub bytes : List ℕ
  pub start : ℕ

-- these bytes, of which so many stood there before
abbrev pub appended : List ℕ → ℕ → Appended
appended bytes start = record { bytes = bytes; start = start }

-- the bytes with one more
abbrev pub append_push : Appended → ℕ → Appended
append_push a byte = appended (a.bytes ++ byte ∷ []) a.start

-- a vector and a room behind it hold all bytes unless memory failed, and the vector always those that stood there before
pub record Holds (items room : List ℕ) (failed : Bool) (all : Appended) : Type 0 where
  pub whole : failed ≡ false → items ++ room ≡ all.bytes
  pub within : all.start ≤ length items
  pub front : take all.start items ≡ take all.start all.bytes

-- what is held before is held after with these bytes behind it
abbrev pub HoldsMore : (Appended → Type 0) → (Appended → Type 0) → List ℕ → Type 0
HoldsMore before after bytes = (all : Appended) → before all → after (appended (all.bytes ++ bytes) all.start)
