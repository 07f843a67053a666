-- Byte strings that lie one behind the other (the bridge's own).
use Rattle.std.specs.Prelude.{◌≡◌, ℕ, ◌≤◌, ◌<◌, ◌^◌, List, map, length, slice_range}
use Rattle.std.specs.List.{All}
use Rattle.byte_table.specs.declared.strings.Entry.{Entry}
use Rattle.byte_table.specs.Hashes.{hash_of}

-- the bytes of an entry
abbrev pub bytes_of : List ℕ → Entry → List ℕ
bytes_of bytes e = slice_range bytes e.start e.end

-- the byte strings of entries
abbrev pub strings_of : List ℕ → List Entry → List (List ℕ)
strings_of bytes es = map (bytes_of bytes) es

-- an entry lies within the bytes and has their hash
pub record IsEntry (bytes : List ℕ) (e : Entry) : Type 0 where
  pub ordered : e.start ≤ e.end
  pub within : e.end ≤ length bytes
  pub hash : e.hash ≡ hash_of (bytes_of bytes e)

-- so many entries as a number of 32 bits counts
pub record AreEntries (bytes : List ℕ) (es : List Entry) : Type 0 where
  pub each : All (IsEntry bytes) es
  pub few : length es < 2 ^ 32
