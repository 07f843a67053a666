-- Sources and sinks in memory: what each holds, and which of its calls fail.
-- The bridge's own.
use Rattle.std.specs.Prelude.{◌≡◌, ℕ, ◌+◌, ◌-◌, ◌^◌, ◌≤◌, Bool, true, false, min, List, [], map, Some, All}
use Rattle.bridge_ports.specs.Doors.{DoorState}

-- a source in memory: the bytes still to come, how many reads failed, how many were made, and the numbers of the reads that fail
pub record SourceState : Type 0 where
  pub left : List ℕ
  pub faults : ℕ
  pub reads : ℕ
  pub failing : List ℕ

-- a sink in memory: the bytes that it holds, how many more it takes, how many writes failed, how many were made, and the numbers of the writes that fail
pub record SinkState : Type 0 where
  pub held : List ℕ
  pub room : ℕ
  pub faults : ℕ
  pub writes : ℕ
  pub failing : List ℕ

-- one more, of a count that stands still at the last value of a u64
abbrev pub one_more : ℕ → ℕ
one_more count = min (count + 1) (2 ^ 64 - 1)

-- the most bytes that one call moves, which a u32 counts
abbrev pub most_at_once : ℕ
most_at_once = 2 ^ 32 - 1

-- a connection in memory: its source and its sink
pub record ConnState : Type 0 where
  pub source : SourceState
  pub sink : SinkState

-- a connection that was not used: no call on it failed, and nothing was written to it
pub record IsFreshConn (c : ConnState) : Type 0 where
  pub no_read_faults : c.source.faults ≡ 0
  pub no_write_faults : c.sink.faults ≡ 0
  pub nothing_held : c.sink.held ≡ []

-- a door in memory: the connections that are to come, those that came back, its counts, and whether one is out
pub record MemoryDoorState : Type 0 where
  pub conns : List ConnState
  pub back : List ConnState
  pub faults : ℕ
  pub handed : ℕ
  pub out : Bool
  pub broken_reads : ℕ
  pub broken_writes : ℕ

-- what is seen of it as a door: it tells the bytes of each connection to come, and what was written to each that came back
abbrev pub door_of : MemoryDoorState → DoorState
door_of d = record {
  faults = d.faults;
  coming = Some (map (λ (c : ConnState). c.source.left) d.conns);
  handed = d.handed;
  out = d.out;
  replies = Some (map (λ (c : ConnState). c.sink.held) d.back);
  broken_reads = d.broken_reads;
  broken_writes = d.broken_writes;
}

-- a door that was just made
abbrev pub new_memory_door : List ConnState → MemoryDoorState
new_memory_door conns = record { conns = conns; back = []; faults = 0; handed = 0; out = false; broken_reads = 0; broken_writes = 0 }

-- how many connections are out
abbrev pub out_count : Bool → ℕ
out_count true = 1
out_count false = 0

-- a door with these parts
abbrev pub door_state : (conns back : List ConnState) → (faults handed : ℕ) → Bool → (broken_reads broken_writes : ℕ) → MemoryDoorState
door_state conns back faults handed out broken_reads broken_writes =
    record { conns = conns; back = back; faults = faults; handed = handed; out = out; broken_reads = broken_reads; broken_writes = broken_writes }

-- what the type of a door in memory keeps: none of the connections to come was used, and no more came back broken than were handed out
pub record IsMemoryDoor (d : MemoryDoorState) : Type 0 where
  pub fresh : All IsFreshConn d.conns
  pub reads : d.broken_reads + out_count d.out ≤ d.handed
  pub writes : d.broken_writes + out_count d.out ≤ d.handed
