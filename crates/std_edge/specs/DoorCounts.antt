-- What a door of the machine counts.
-- The bridge's own.
use Rattle.std.specs.Prelude.{Bool, None}
use Rattle.std_edge.specs.declared.door.DoorCounts.{DoorCounts}
use Rattle.bridge_ports.specs.Doors.{DoorState}
use Rattle.bridge_ports.specs.Worlds.{BackDoor}

-- a door with these counts, of which a connection may be out; it tells neither what is to come nor what was written
abbrev pub door_seen : DoorCounts → Bool → DoorState
door_seen counts out = record { faults = counts.faults; coming = None; handed = counts.handed; out = out; replies = None; broken_reads = counts.broken_reads; broken_writes = counts.broken_writes }

-- what came back of a door with these counts
abbrev pub back_seen : DoorCounts → BackDoor
back_seen counts = record { handed = counts.handed; replies = None; broken_reads = counts.broken_reads; broken_writes = counts.broken_writes; faults = counts.faults }
