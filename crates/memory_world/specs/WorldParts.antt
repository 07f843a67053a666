-- The parts of a world in memory as they are kept: files and doors as they were given, pairs of wires that were given, and those that were handed out.
-- The bridge's own.
use Rattle.std.specs.Prelude.{◌≡◌, ◌⊎◌, ℕ, ◌<◌, ◌≤◌, Bool, true, false, ◌==◌, List, [], ◌++◌, length, take, drop, map, find, slice_get, All, Option, Some, None, option_map, unwrap_or, is_some, if◌then◌else◌}
use Rattle.bridge_ports.specs.declared.talk.Address.{Address}
use Rattle.bridge_ports.specs.declared.memory_world.Shelved.{Shelved}
use Rattle.bridge_ports.specs.declared.memory_world.MemoryFile.{MemoryFile}
use Rattle.bridge_ports.specs.declared.memory_world.MemoryPair.{MemoryPair}
use Rattle.bridge_ports.specs.declared.memory_world.MemoryListen.{MemoryListen}
use Rattle.memory_world.specs.declared.memory_pairs.KeptPair.{KeptPair}
use Rattle.bridge_ports.specs.Plans.{MemoryState, seen_of}
use Rattle.bridge_ports.specs.Worlds.{Given, ShelvedPair, BackDoor, no_back_door, OpenFile, KeepsOthers, KeepsComing}
use Rattle.bridge_ports.specs.Outside.{Outside, SeenPair, seen_pair}
use Rattle.bridge_ports.specs.InMemory.{MemoryDoorState, door_of}
use Rattle.bridge_ports.specs.Doors.{new_door}
use Rattle.bridge_ports.specs.MemoryWorlds.{FileState, PairState, ListenState, MemoryWorldState, file_of, pair_of, given_of, or_bare, coming_of}
use Rattle.bridge_ports.specs.WorldMaking.{given_pair, away, HasPlaces, IsRightListen}

-- a file as it was given
abbrev pub file_given : MemoryFile → FileState
file_given f = record { path = f.path; bytes = f.bytes }

-- files, and the bytes still to come of the one that is open
pub record FilesState : Type 0 where
  pub files : List FileState
  pub left : Option (List ℕ)

-- the bytes of the file at this place
abbrev pub bytes_at : List MemoryFile → ℕ → List ℕ
bytes_at files place = unwrap_or (option_map (λ (f : MemoryFile). f.bytes) (slice_get files place)) []

-- files, of which the one at this place may be open with so many bytes read
abbrev pub files_state : List MemoryFile → Bool → ℕ → ℕ → FilesState
files_state files is_open place read = record {
  files = map file_given files;
  left = if is_open then Some (drop read (bytes_at files place)) else None;
}

-- the file that is open is there, and no more was read than it has
pub record IsOpenWithin (files : List MemoryFile) (is_open : Bool) (place read : ℕ) : Type 0 where
  pub there : is_open ≡ true → place < length files
  pub within : is_open ≡ true → read ≤ length (bytes_at files place)

-- no file is open, since that was refused or there is no file of the path
pub record IsFileClosed (old new : FilesState) (path : List ℕ) (is_refused : Bool) : Type 0 where
  pub none_left : new.left ≡ None
  pub why : (is_refused ≡ true) ⊎ (file_of old.files path ≡ None)

-- so many bytes of the open file were read, none only at its end
pub record IsFileRead (old new : Option (List ℕ)) (count : ℕ) (into : List ℕ) : Type 0 where
  pub left : List ℕ
  pub rest : List ℕ
  pub old_is : old ≡ Some left
  pub new_is : new ≡ Some rest
  pub bytes : left ≡ take count into ++ rest
  pub at_end : count ≡ 0 → 0 < length into → rest ≡ []

-- the file that is open, as a world has it
abbrev pub open_file : Option (List ℕ) → Option OpenFile
open_file left = option_map (λ (bytes : List ℕ). record { left = Some bytes }) left

-- what is seen of the door that came back last
abbrev pub last_back : Option MemoryDoorState → BackDoor
last_back None = no_back_door
last_back (Some d) = record { handed = d.handed; replies = (door_of d).replies; broken_reads = d.broken_reads; broken_writes = d.broken_writes; faults = d.faults }

-- a door as it was given
abbrev pub listen_given : MemoryListen → ListenState
listen_given l = record { at = l.at; door = l.door }

-- the door of an address may be given
abbrev pub IsListenRight : MemoryListen → Type 0
IsListenRight l = IsRightListen (listen_given l)

-- a pair on the shelf
abbrev pub shelved_given : Shelved → ShelvedPair
shelved_given s = record { scrape = s.scrape; post = s.post }

-- both wires of a pair
abbrev pub both_wires : Shelved → MemoryState × MemoryState
both_wires s = (s.scrape, s.post)

-- a pair that was given and never handed out
abbrev pub fresh_pair : MemoryPair → PairState
fresh_pair p = given_pair p.number p.wires.scrape p.wires.post

-- the addresses with which a pair was handed out
abbrev pub addresses_kept : Address → Address → Option Given
addresses_kept scrape post = Some (record { scrape = scrape; post = post })

-- what is seen of a pair: its wires where they are at home
abbrev pub pair_seen : ℕ → Option (MemoryState × MemoryState) → Option Given → PairState
pair_seen number wires given = record {
  number = number;
  scrape = unwrap_or (option_map (λ (w : MemoryState × MemoryState). w.0) wires) (away number false);
  post = unwrap_or (option_map (λ (w : MemoryState × MemoryState). w.1) wires) (away number true);
  given = given;
  at_home = is_some wires;
}

-- a pair that was handed out
abbrev pub handed_pair : KeptPair → PairState
handed_pair k = pair_seen k.number (option_map both_wires k.wires) (addresses_kept k.scrape k.post)

-- all pairs, those that were handed out first
abbrev pub pairs_state : List KeptPair → List MemoryPair → List PairState
pairs_state kept fresh = map handed_pair kept ++ map fresh_pair fresh

-- a pair that was handed out has its places, where it is at home
abbrev pub IsHandedRight : KeptPair → Type 0
IsHandedRight k = HasPlaces (handed_pair k)

-- a pair that was given has its places
abbrev pub IsFreshRight : MemoryPair → Type 0
IsFreshRight p = HasPlaces (fresh_pair p)

-- each pair that is at home has its places
pub record HavePlaces (kept : List KeptPair) (fresh : List MemoryPair) : Type 0 where
  pub handed : All IsHandedRight kept
  pub given : All IsFreshRight fresh

-- the pair of a number, where one was given or handed out
abbrev pub found_pair : List PairState → ℕ → Option PairState
found_pair pairs number = find (λ (p : PairState). p.number == number) pairs

-- the pair of a number among those that were handed out
abbrev pub handed_of : List KeptPair → ℕ → Option KeptPair
handed_of kept number = find (λ (k : KeptPair). k.number == number) kept

-- the pair of a number among those that were given and never handed out
abbrev pub fresh_of : List MemoryPair → ℕ → Option MemoryPair
fresh_of fresh number = find (λ (p : MemoryPair). p.number == number) fresh

-- the wires of a number were taken out of the pairs that were given, or are bare ones
pub record IsFirstOut (number : ℕ) (old new : List MemoryPair) (wires : Shelved) : Type 0 where
  pub pair : or_bare number (option_map fresh_pair (fresh_of old number)) ≡ Some (both_wires wires)
  pub others : KeepsOthers number (fresh_of old) (fresh_of new)
  pub places : All IsFreshRight old → All IsFreshRight new

-- the door of an address was taken out, as it was given; at every other address the same is to come
pub record IsDoorOut (at : Address) (old new : List MemoryListen) (door : MemoryDoorState) : Type 0 where
  pub fresh : door_of door ≡ new_door (coming_of (map listen_given old) at)
  pub others : KeepsComing at (coming_of (map listen_given old)) (coming_of (map listen_given new))
  pub right : All IsListenRight new

-- ---- what is seen of a world

-- the pair of a number that is at home, as it is seen
abbrev pub seen_home : List PairState → ℕ → Option SeenPair
seen_home pairs number = option_map (seen_pair seen_of) (pair_of pairs number)

-- what is seen of a world
abbrev pub outside_of : MemoryWorldState → Outside
outside_of w = record { world = w.world; files = file_of w.files; home = seen_home w.pairs; given = given_of w.pairs; coming = coming_of w.doors }
