-- What is known of the machine's connections, doors and wires: counts, and no bytes.
-- The bridge's own.
use Rattle.std.specs.Prelude.{ℕ, ◌+◌, ◌≤◌, Bool, true, false, Option, Some, None}
use Rattle.bridge_ports.specs.declared.talk.Stage.{Stage}
use Rattle.bridge_ports.specs.declared.talk.Stage.TheVariants as stages
use Rattle.bridge_ports.specs.declared.talk.Place.{Place}
use Rattle.bridge_ports.specs.Talks.{WireState}
use Rattle.bridge_ports.specs.Doors.{DoorState}
use Rattle.bridge_ports.specs.InMemory.{out_count}

-- a connection: how many reads failed, and how many writes
pub record ConnCounts : Type 0 where
  pub reads : ℕ
  pub writes : ℕ

-- no call failed
abbrev pub no_faults : ConnCounts
no_faults = record { reads = 0; writes = 0 }

-- a door, of which no more connections came back broken than were handed out
pub record IsDoorCounted (d : DoorState) : Type 0 where
  pub reads : d.broken_reads + out_count d.out ≤ d.handed
  pub writes : d.broken_writes + out_count d.out ≤ d.handed

-- how far a wire is, by whether a talk began and whether its peer is connected
abbrev pub stage_seen : {C : Type 0} → Bool → Option C → Stage
stage_seen has_begun (Some conn) = stages.Connected
stage_seen true None = stages.Begun
stage_seen false None = stages.Idle

-- a wire that was just made
abbrev pub unused_wire : Place → WireState
unused_wire place = record { place = place; plan = None; faults = 0; allowed = 0; room = 0; stage = stages.Idle; left = 0; told = None }
