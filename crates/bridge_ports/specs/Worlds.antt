-- The world of the program: files, pairs of wires, doors, and the shelf.
-- The bridge's own.
use Rattle.std.specs.Prelude.{◌≡◌, ◌≢◌, ℕ, Bool, false, ◌&&◌, ◌==◌, bytes_eq, List, ◌∷◌, Option, Some, None, Result}
use Rattle.std.specs.Io.KnownBytes.{ReadConsumes}
use Rattle.bridge_ports.specs.declared.talk.Address.{Address}
use Rattle.bridge_ports.specs.Talks.{WireState}
use Rattle.bridge_ports.specs.declared.talk.Stage.TheVariants as stages
use Rattle.bridge_ports.specs.Plans.{MemoryState}

-- what came back of a door: how many connections it handed out, what was written to each, where that is told, of how many a read failed, of how many a write failed, and its count of faults
pub record BackDoor : Type 0 where
  pub handed : ℕ
  pub replies : Option (List (List ℕ))
  pub broken_reads : ℕ
  pub broken_writes : ℕ
  pub faults : ℕ

-- no door came back
abbrev pub no_back_door : BackDoor
no_back_door = record { handed = 0; replies = None; broken_reads = 0; broken_writes = 0; faults = 0 }

-- a file that is open: its bytes still to come, where that is told
pub record OpenFile : Type 0 where
  pub left : Option (List ℕ)

-- a pair of wires in memory
pub record ShelvedPair : Type 0 where
  pub scrape : MemoryState
  pub post : MemoryState

-- a world but for its pairs: how many calls on files failed, and how many on doors; the file asked for, and the one that is open; the door asked for, what came back of it; and the shelf, the pair that was handed in last first, where that is told
pub record WorldState : Type 0 where
  pub file_faults : ℕ
  pub door_faults : ℕ
  pub asked : Option (List ℕ)
  pub file : Option OpenFile
  pub door_at : Option Address
  pub back_door : BackDoor
  pub shelf : Option (List ShelvedPair)

-- the two addresses with which a pair was handed out
pub record Given : Type 0 where
  pub scrape : Address
  pub post : Address

-- a wire that is at home: no talk is under way, and it is in its place
pub record IsHome (number : ℕ) (post : Bool) (w : WireState) : Type 0 where
  pub free : w.stage ≡ stages.Idle
  pub place : w.place ≡ record { number = number; post = post }

-- the numbers other than this keep what they have
abbrev pub KeepsOthers : {A : Type 0} → ℕ → (ℕ → A) → (ℕ → A) → Type 0
KeepsOthers number old new = (n : ℕ) → n ≢ number → new n ≡ old n

-- an open file is read as a source is
abbrev pub FileReadsFrom : {E : Type 0} → Option OpenFile → Option OpenFile → Result ℕ E → List ℕ → Type 0
FileReadsFrom (Some old) (Some new) result into = ReadConsumes old.left new.left result into
FileReadsFrom _ _ result into = ⊥

-- a pair on the shelf
abbrev pub put_on : MemoryState → MemoryState → List ShelvedPair → List ShelvedPair
put_on scrape post pairs = record { scrape = scrape; post = post } ∷ pairs

-- two addresses are one
abbrev pub is_address : Address → Address → Bool
is_address a b = bytes_eq a.host b.host && (a.port == b.port && bytes_eq a.path b.path)

-- at every other address than this the same is to come
abbrev pub KeepsComing : Address → (Address → Option (List (List ℕ))) → (Address → Option (List (List ℕ))) → Type 0
KeepsComing at old new = (other : Address) → is_address other at ≡ false → new other ≡ old other
