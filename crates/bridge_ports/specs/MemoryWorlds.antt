-- The world in memory: files by path, pairs of wires by number, doors by address.
-- The bridge's own.
use Rattle.std.specs.Prelude.{ℕ, Bool, true, false, ◌&&◌, ◌==◌, List, [], find, Option, Some, None, option_map, bytes_eq, nat_le, if◌then◌else◌}
use Rattle.bridge_ports.specs.declared.talk.Address.{Address}
use Rattle.bridge_ports.specs.Talks.{Plan}
use Rattle.bridge_ports.specs.Plans.{MemoryState, new_wire}
use Rattle.bridge_ports.specs.InMemory.{MemoryDoorState, door_of}
use Rattle.bridge_ports.specs.Worlds.{WorldState, Given, is_address}

-- a file: its path and its bytes
pub record FileState : Type 0 where
  pub path : List ℕ
  pub bytes : List ℕ

-- a pair of wires: its number, the two wires, the addresses with which it was handed out last, and whether it is at home
pub record PairState : Type 0 where
  pub number : ℕ
  pub scrape : MemoryState
  pub post : MemoryState
  pub given : Option Given
  pub at_home : Bool

-- a door that is to be asked for, by its address
pub record ListenState : Type 0 where
  pub at : Address
  pub door : MemoryDoorState

-- a world in memory: what is seen of it but its pairs, its files, the pairs that were given or handed out, its doors, how many calls on files and doors were made, and the numbers of those that fail
pub record MemoryWorldState : Type 0 where
  pub world : WorldState
  pub files : List FileState
  pub pairs : List PairState
  pub doors : List ListenState
  pub calls : ℕ
  pub failing : List ℕ

-- the file of a path
abbrev pub file_of : List FileState → List ℕ → Option (List ℕ)
file_of files path = option_map (λ (f : FileState). f.bytes) (find (λ (f : FileState). bytes_eq f.path path) files)

-- a plan without replies
abbrev pub no_plan : Plan
no_plan = record { replies = []; after = None; most = 1; failing = []; keeps = true }

-- the pair of a number that none was given for
abbrev pub bare_pair : ℕ → Option (MemoryState × MemoryState)
bare_pair number =
    if nat_le 1 number && nat_le number 256
    then Some (new_wire (record { number = number; post = false }) no_plan, new_wire (record { number = number; post = true }) no_plan)
    else None

-- the wires of a pair that is at home
abbrev pub wires_of : PairState → Option (MemoryState × MemoryState)
wires_of p = if p.at_home then Some (p.scrape, p.post) else None

-- the wires of what was found, or of a bare pair
abbrev pub or_bare : ℕ → Option PairState → Option (MemoryState × MemoryState)
or_bare number None = bare_pair number
or_bare number (Some p) = wires_of p

-- the pair of a number, where it is at home
abbrev pub pair_of : List PairState → ℕ → Option (MemoryState × MemoryState)
pair_of pairs number = or_bare number (find (λ (p : PairState). p.number == number) pairs)

-- the addresses of what was found
abbrev pub given_of_found : Option PairState → Option Given
given_of_found None = None
given_of_found (Some p) = p.given

-- the addresses with which the pair of a number was handed out last
abbrev pub given_of : List PairState → ℕ → Option Given
given_of pairs number = given_of_found (find (λ (p : PairState). p.number == number) pairs)

-- what is to come at the door of what was found
abbrev pub coming_of_found : Option ListenState → Option (List (List ℕ))
coming_of_found None = Some []
coming_of_found (Some l) = (door_of l.door).coming

-- what is to come at the door of an address
abbrev pub coming_of : List ListenState → Address → Option (List (List ℕ))
coming_of doors at = coming_of_found (find (λ (l : ListenState). is_address l.at at) doors)
