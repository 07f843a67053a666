-- What was read of an input. The bridge's own.
use Rattle.std.specs.Prelude.{◌≡◌, ℕ, ◌+◌, ◌<◌, ◌≤◌, ◌^◌, ◌⊎◌, List, length, Option, IfSome}
use Rattle.std.specs.Io.KnownBytes.{Consumes, IsAtEnd}

-- the most bytes that one read takes: 16 KiB
abbrev pub most_block : ℕ
most_block = 2 ^ 14

-- the bytes that were on the input: where the input tells, what it had left
abbrev pub IsInput : Option (List ℕ) → List ℕ → Type 0
IsInput left bytes = IfSome left (λ told. bytes ≡ told)

-- so many bytes of an input were taken, and no more
pub record Took (left after : Option (List ℕ)) (taken : ℕ) : Type 0 where
  pub bytes : List ℕ
  pub from : Consumes left after bytes
  pub count : length bytes ≡ taken

-- at most so many bytes of an input were taken
pub record TookAtMost (most : ℕ) (left after : Option (List ℕ)) : Type 0 where
  pub bytes : List ℕ
  pub from : Consumes left after bytes
  pub few : length bytes ≤ most

-- an input ended after at most so many bytes
pub record EndsWithin (most : ℕ) (left after : Option (List ℕ)) : Type 0 where
  pub took : TookAtMost most left after
  pub ends : IsAtEnd after

-- more bytes than these were taken, by at most one read
pub record IsOverlong (most : ℕ) (left after : Option (List ℕ)) : Type 0 where
  pub bytes : List ℕ
  pub from : Consumes left after bytes
  pub many : most < length bytes
  pub soon : length bytes ≤ most + most_block

-- an input was read to its end, or past its limit
abbrev pub IsReadThrough : ℕ → Option (List ℕ) → Option (List ℕ) → Type 0
IsReadThrough most left after = EndsWithin most left after ⊎ IsOverlong most left after
