-- The world in memory as it is made, and what its own calls give.
-- The bridge's own.
use Rattle.std.specs.Prelude.{◌≡◌, ◌⊎◌, ℕ, ◌≤◌, Bool, true, false, ◌==◌, List, [], find, reverse, All, Contains, Option, Some, None, option_map, bytes_eq, IsSome}
use Rattle.std.specs.List.{IsDistinct}
use Rattle.bridge_ports.specs.declared.talk.Address.{Address}
use Rattle.bridge_ports.specs.declared.talk.Stage.TheVariants as stages
use Rattle.bridge_ports.specs.Plans.{MemoryState, new_wire}
use Rattle.bridge_ports.specs.InMemory.{MemoryDoorState, new_memory_door, IsFreshConn, one_more}
use Rattle.bridge_ports.specs.Worlds.{WorldState, ShelvedPair, Given, no_back_door, is_address}
use Rattle.bridge_ports.specs.MemoryWorlds.{FileState, PairState, ListenState, MemoryWorldState, file_of, wires_of, no_plan}

-- ---- the conditions

-- both files are of one path
abbrev pub is_one_path : FileState → FileState → Bool
is_one_path a b = bytes_eq a.path b.path

-- both pairs are of one number
abbrev pub is_one_number : PairState → PairState → Bool
is_one_number a b = a.number == b.number

-- both doors are of one address
abbrev pub is_one_address : ListenState → ListenState → Bool
is_one_address a b = is_address a.at b.at

-- a pair that may be given: a number from 1 to 256, the places of that number, no talk under way on either wire; it is at home and was not handed out
pub record IsRightPair (p : PairState) : Type 0 where
  pub number : (1 ≤ p.number) × (p.number ≤ 256)
  pub scrape_place : p.scrape.place ≡ record { number = p.number; post = false }
  pub post_place : p.post.place ≡ record { number = p.number; post = true }
  pub scrape_free : p.scrape.stage ≡ stages.Idle
  pub post_free : p.post.stage ≡ stages.Idle
  pub given : p.given ≡ None
  pub at_home : p.at_home ≡ true

-- a door that may be given: as it was made, with connections that were not used
pub record IsRightListen (l : ListenState) : Type 0 where
  pub unused : l.door ≡ new_memory_door l.door.conns
  pub fresh : All IsFreshConn l.door.conns

-- what a world may be made of: each path, each number and each address once
pub record MayBeMade (files : List FileState) (pairs : List PairState) (doors : List ListenState) : Type 0 where
  pub paths : IsDistinct is_one_path files
  pub numbers : IsDistinct is_one_number pairs
  pub addresses : IsDistinct is_one_address doors
  pub right_pairs : All IsRightPair pairs
  pub right_doors : All IsRightListen doors

-- ---- the world that is made

-- a pair that was given, at home
abbrev pub given_pair : ℕ → MemoryState → MemoryState → PairState
given_pair number scrape post = record { number = number; scrape = scrape; post = post; given = None; at_home = true }

-- what is seen of a world that was just made, but its pairs: no call was made, and its shelf is empty
abbrev pub fresh_world : WorldState
fresh_world = record { file_faults = 0; door_faults = 0; asked = None; file = None; door_at = None; back_door = no_back_door; shelf = Some [] }

-- a world that was just made of these
abbrev pub new_world : List FileState → List PairState → List ListenState → List ℕ → MemoryWorldState
new_world files pairs doors failing = record { world = fresh_world; files = files; pairs = pairs; doors = doors; calls = 0; failing = failing }

-- ---- its own calls

-- the wires of what was found
abbrev pub found_wires : Option PairState → Option (MemoryState × MemoryState)
found_wires None = None
found_wires (Some p) = wires_of p

-- the pair of a number that was given to the world, or came back to it, and is at home
abbrev pub shown_pair : List PairState → ℕ → Option (MemoryState × MemoryState)
shown_pair pairs number = found_wires (find (λ (p : PairState). p.number == number) pairs)

-- the pairs on the shelf, in the order in which they were handed in
abbrev pub on_shelf : MemoryWorldState → Option (List ShelvedPair)
on_shelf w = option_map reverse w.world.shelf

-- ---- which of its calls fail

-- a call on files or doors was counted
abbrev pub IsCounted : MemoryWorldState → MemoryWorldState → Type 0
IsCounted old new = (new.calls ≡ one_more old.calls) × (new.failing ≡ old.failing)

-- the call is one of those that fail
abbrev pub MustFail : MemoryWorldState → MemoryWorldState → Type 0
MustFail old new = Contains old.failing new.calls

-- opening the file of a path fails where the call must, or there is no such file
abbrev pub FailsToOpen : MemoryWorldState → MemoryWorldState → List ℕ → Type 0
FailsToOpen old new path = MustFail old new ⊎ (file_of old.files path ≡ None)

-- ---- how its type keeps them

-- a wire that is away, of which nothing is known
abbrev pub away : ℕ → Bool → MemoryState
away number post = new_wire (record { number = number; post = post }) no_plan

-- a pair by what is kept of it: its wires where they are at home
abbrev pub pair_kept : ℕ → Option (MemoryState × MemoryState) → Option Given → PairState
pair_kept number None given = record { number = number; scrape = away number false; post = away number true; given = given; at_home = false }
pair_kept number (Some wires) given = record { number = number; scrape = wires.0; post = wires.1; given = given; at_home = true }

-- a pair has a number from 1 to 256 and, where it is at home, the places of that number, with no talk under way
pub record HasPlaces (p : PairState) : Type 0 where
  pub number : (1 ≤ p.number) × (p.number ≤ 256)
  pub scrape : p.at_home ≡ true → (p.scrape.place ≡ record { number = p.number; post = false }) × (p.scrape.stage ≡ stages.Idle)
  pub post : p.at_home ≡ true → (p.post.place ≡ record { number = p.number; post = true }) × (p.post.stage ≡ stages.Idle)

-- a door by what is kept of it: nothing is to come at one that was handed out, which then tells what is to come itself
abbrev pub listen_kept : Address → Option MemoryDoorState → ListenState
listen_kept at None = record { at = at; door = new_memory_door [] }
listen_kept at (Some door) = record { at = at; door = door }

-- what the world in memory keeps: each path, number and address once, and the places of the pairs that are at home
pub record IsMemoryWorld (w : MemoryWorldState) : Type 0 where
  pub paths : IsDistinct is_one_path w.files
  pub numbers : IsDistinct is_one_number w.pairs
  pub addresses : IsDistinct is_one_address w.doors
  pub homes : All HasPlaces w.pairs
  pub told : IsSome w.world.shelf
