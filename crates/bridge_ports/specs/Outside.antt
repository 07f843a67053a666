-- The world of the program as it is seen: one record, and what each call makes of it.
-- The bridge's own.
use Rattle.std.specs.Prelude.{◌≡◌, ℕ, ◌==◌, List, Option, Some, None, option_map, Result, if◌then◌else◌}
use Rattle.bridge_ports.specs.declared.talk.Address.{Address}
use Rattle.bridge_ports.specs.Talks.{WireState}
use Rattle.bridge_ports.specs.Plans.{MemoryState}
use Rattle.bridge_ports.specs.Doors.{DoorState}
use Rattle.bridge_ports.specs.Worlds.{WorldState, OpenFile, Given, FileReadsFrom, put_on, is_address}

-- a pair of wires as it is seen: that of scrapes, and that of posts
abbrev pub SeenPair : Type 0
SeenPair = WireState × WireState

-- a pair of wires, each of which is seen so
abbrev pub seen_pair : {A : Type 0} → (A → WireState) → A × A → SeenPair
seen_pair state pair = (state pair.0, state pair.1)

-- the bytes of each connection that is to come at the door of an address, where that is told
abbrev pub Coming : Type 0
Coming = Address → Option (List (List ℕ))

-- what is seen of a world: files, doors and the shelf; the bytes of the file of a path, where that is told; the pair of wires of a number, where it is at home; the addresses with which that pair was handed out last; and what is to come at doors
pub record Outside : Type 0 where
  pub world : WorldState
  pub files : List ℕ → Option (List ℕ)
  pub home : ℕ → Option SeenPair
  pub given : ℕ → Option Given
  pub coming : Coming

-- of what is seen, files, doors and the shelf are these
abbrev pub with_world : WorldState → Outside → Outside
with_world w o = record o { world = w }

-- ---- files

-- once the file of this path is open at its front
abbrev pub with_file_open : List ℕ → Outside → Outside
with_file_open path o = with_world (record o.world { asked = Some path; file = Some (record { left = o.files path }) }) o

-- once the file of this path could not be opened
abbrev pub with_no_file_open : List ℕ → ℕ → Outside → Outside
with_no_file_open path faults o = with_world (record o.world { asked = Some path; file = None; file_faults = faults }) o

-- once the open file was read up to here
abbrev pub with_file_at : Option OpenFile → ℕ → Outside → Outside
with_file_at file faults o = with_world (record o.world { file = file; file_faults = faults }) o

-- a read of the open file: it is read as a source is, and nothing else changes
pub record FileReads {E : Type 0} (old new : Outside) (result : Result ℕ E) (into : List ℕ) : Type 0 where
  pub reads : FileReadsFrom old.world.file new.world.file result into
  pub rest : new ≡ with_file_at new.world.file new.world.file_faults old

-- ---- pairs of wires

-- this at a number, and at every other what was there
abbrev pub at_number : {A : Type 0} → ℕ → A → (ℕ → A) → ℕ → A
at_number number value before n = if n == number then value else before n

-- of what is seen, these pairs are at home, and with these addresses pairs were handed out
abbrev pub with_pairs : (ℕ → Option SeenPair) → (ℕ → Option Given) → Outside → Outside
with_pairs home given o = record o { home = home; given = given }

-- once the pair of this number was handed out with these addresses
abbrev pub with_pair_out : ℕ → Given → Outside → Outside
with_pair_out number addresses o = with_pairs (at_number number None o.home) (at_number number (Some addresses) o.given) o

-- once this pair is at home under this number
abbrev pub with_pair_home : ℕ → SeenPair → Outside → Outside
with_pair_home number pair o = record o { home = at_number number (Some pair) o.home }

-- ---- doors

-- this is to come at an address, and at every other what was
abbrev pub at_address : Address → Option (List (List ℕ)) → Coming → Coming
at_address at left before other = if is_address other at then left else before other

-- once the door of this address was asked for, where this is left to come
abbrev pub with_door_asked : Address → ℕ → Option (List (List ℕ)) → Outside → Outside
with_door_asked at faults left o = record o { world = record o.world { door_at = Some at; door_faults = faults }; coming = at_address at left o.coming }

-- once this door came back
abbrev pub with_back_door : DoorState → Outside → Outside
with_back_door d o = with_world (record o.world { back_door = record { handed = d.handed; replies = d.replies; broken_reads = d.broken_reads; broken_writes = d.broken_writes; faults = d.faults } }) o

-- ---- the shelf

-- once this pair was handed in
abbrev pub with_shelved_pair : MemoryState → MemoryState → Outside → Outside
with_shelved_pair scrape post o = with_world (record o.world { shelf = option_map (put_on scrape post) o.world.shelf }) o
