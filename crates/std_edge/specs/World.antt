-- The world of the machine: what is seen of it. It tells no bytes, and has no shelf.
-- The bridge's own.
use Rattle.std.specs.Prelude.{ℕ, List, [], Option, None, option_map}
use Rattle.bridge_ports.specs.declared.talk.Address.{Address}
use Rattle.bridge_ports.specs.Worlds.{WorldState, OpenFile, BackDoor, no_back_door}
use Rattle.bridge_ports.specs.Outside.{Outside}
use Rattle.std_edge.specs.Pairs.{PairSeen, home_in, last_given_in}

-- a world: how many calls on files failed, and how many on doors; the file asked for, and the one that is open; the door asked for, and what came back of it; and the pairs that were handed out, by number
pub record MachineState : Type 0 where
  pub file_faults : ℕ
  pub door_faults : ℕ
  pub asked : Option (List ℕ)
  pub file : Option OpenFile
  pub door_at : Option Address
  pub back_door : BackDoor
  pub pairs : List (ℕ × PairSeen)

-- a world that was just made
abbrev pub new_machine : MachineState
new_machine = record { file_faults = 0; door_faults = 0; asked = None; file = None; door_at = None; back_door = no_back_door; pairs = [] }

-- a file that is open, of which no bytes are told
abbrev pub open_seen : {F : Type 0} → Option F → Option OpenFile
open_seen file = option_map (λ _. record { left = None }) file

-- ---- what is seen of a world

-- files and doors; no shelf is told
abbrev pub machine_world : MachineState → WorldState
machine_world w = record { file_faults = w.file_faults; door_faults = w.door_faults; asked = w.asked; file = w.file; door_at = w.door_at; back_door = w.back_door; shelf = None }

-- all of it: the bytes of a file, and those that are to come at a door, are not told
abbrev pub machine_outside : MachineState → Outside
machine_outside w = record { world = machine_world w; files = λ _. None; home = home_in w.pairs; given = last_given_in w.pairs; coming = λ _. None }
