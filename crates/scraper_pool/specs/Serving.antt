-- What comes of a door whose connections are served beside a run.
-- The bridge's own.
use Rattle.std.specs.Prelude.{◌≡◌, ℕ, ◌+◌, ◌≤◌, ◌⊎◌, true, false, List, [], ◌∷◌, length, drop, All, Option, Some, None, option_map, Result, Ok, Err}
use Rattle.bridge_ports.specs.Causes.{Rose}
use Rattle.bridge_ports.specs.Connections.{ConnSeen}
use Rattle.bridge_ports.specs.Doors.{DoorState, IsFirstToCome, HoldsNothing, with_reply, closed_with}
use Rattle.page_server.specs.declared.status.ReplyStatus.{ReplyStatus}
use Rattle.page_server.specs.declared.status.ServeFault.{ServeFault}
use Rattle.page_server.specs.Serving.{ServeAnswer}
use Rattle.series_select.specs.declared.selector.Selector.{Selector}

-- a door out of which nothing was handed
abbrev pub IsUnopened : DoorState → Type 0
IsUnopened d = (d.handed ≡ 0) × (d.out ≡ false)

-- how many connections such an answer counts
abbrev pub served_count : Result ReplyStatus ServeFault → ℕ
served_count (Ok status) = 1
served_count (Err fault) = 0

-- what came of a connection is what serving it comes to, and it counts 1 just where its request was heard and the whole reply to it written
pub record IsCountedAs (may_show : List Selector → List ℕ → Type 0) (fresh back : ConnSeen) (count : ℕ) : Type 0 where
  pub answer : Result ReplyStatus ServeFault
  pub came_to : ServeAnswer may_show fresh back answer
  pub count_is : count ≡ served_count answer

-- the first connection to come was handed out fresh, served and counted, and the door took it back as it then was
pub record ServedOne (may_show : List Selector → List ℕ → Type 0) (old new : DoorState) (fresh back : ConnSeen) (count : ℕ) : Type 0 where
  pub first : IsFirstToCome old.coming new.coming fresh.left
  pub nothing_held : HoldsNothing fresh.held
  pub no_read_faults : fresh.read_faults ≡ 0
  pub no_write_faults : fresh.write_faults ≡ 0
  pub counted : IsCountedAs may_show fresh back count
  pub taken_back : new ≡ closed_with back.held back.read_faults back.write_faults (record old { coming = new.coming; handed = old.handed + 1; out = true })

-- a connection of a door: as it was handed out, as it came back, and what serving it answered
pub record ServedConn : Type 0 where
  pub fresh : ConnSeen
  pub back : ConnSeen
  pub answer : Result ReplyStatus ServeFault

-- a connection was handed out unused, and what came of it is what serving it comes to
pub record WasServed (may_show : List Selector → List ℕ → Type 0) (c : ServedConn) : Type 0 where
  pub nothing_held : HoldsNothing c.fresh.held
  pub no_read_faults : c.fresh.read_faults ≡ 0
  pub no_write_faults : c.fresh.write_faults ≡ 0
  pub came_to : ServeAnswer may_show c.fresh c.back c.answer

-- of the connections that were to come these came first, in order
abbrev pub CameFirst : Option (List (List ℕ)) → Option (List (List ℕ)) → List ServedConn → Type 0
CameFirst old new [] = new ≡ old
CameFirst old new (c ∷ conns) = (between : Option (List (List ℕ))) × IsFirstToCome old between c.fresh.left × CameFirst between new conns

-- these replies, and behind them what each of these connections held as it came back, where all are told
abbrev pub with_replies : Option (List (List ℕ)) → List ServedConn → Option (List (List ℕ))
with_replies replies [] = replies
with_replies replies (c ∷ conns) = with_replies (with_reply c.back.held replies) conns

-- how many of these connections were answered
abbrev pub answered_count : List ServedConn → ℕ
answered_count [] = 0
answered_count (c ∷ conns) = served_count c.answer + answered_count conns

-- these connections, the first of those to come, were served one after the other and came back
pub record AreServed (may_show : List Selector → List ℕ → Type 0) (old new : DoorState) (conns : List ServedConn) : Type 0 where
  pub each : All (WasServed may_show) conns
  pub first : CameFirst old.coming new.coming conns
  pub replies : new.replies ≡ with_replies old.replies conns

-- so many connections more were handed out, the first of those to come, and all were served and came back; of each at most one of these holds: it was answered, a read of it failed, a write of it failed
pub record ServedSome (may_show : List Selector → List ℕ → Type 0) (old new : DoorState) (handed served : ℕ) : Type 0 where
  pub conns : List ServedConn
  pub many : handed ≡ length conns
  pub are_served : AreServed may_show old new conns
  pub answered : served ≡ answered_count conns
  pub handed_on : new.handed ≡ old.handed + handed
  pub faults : new.faults ≡ old.faults
  pub home : new.out ≡ false
  pub coming : new.coming ≡ option_map (drop handed) old.coming
  pub later_reads : old.broken_reads ≤ new.broken_reads
  pub later_writes : old.broken_writes ≤ new.broken_writes
  pub counted : served + new.broken_reads + new.broken_writes ≤ handed + old.broken_reads + old.broken_writes

-- no connection could be handed out: the count of faults rose, and nothing else changed
pub record HasRefused (old new : DoorState) : Type 0 where
  pub door : new ≡ record old { faults = new.faults }
  pub rose : Rose old.faults new.faults

-- as many connections were handed out as were asked for, or fewer, and one could not be; each was served and came back, and those that were answered are counted; of each at most one of these holds: it was answered, a read of it failed, a write of it failed
pub record HasServed (may_show : List Selector → List ℕ → Type 0) (pages : ℕ) (old new : DoorState) (served : ℕ) : Type 0 where
  pub conns : List ServedConn
  pub many : new.handed ≡ length conns
  pub are_served : AreServed may_show old new conns
  pub answered : served ≡ answered_count conns
  pub most : new.handed ≤ pages
  pub all_or_failed : (new.handed ≡ pages) ⊎ Rose old.faults new.faults
  pub no_more : new.handed ≡ pages → new.faults ≡ old.faults
  pub home : new.out ≡ false
  pub coming : new.coming ≡ option_map (drop new.handed) old.coming
  pub later_reads : old.broken_reads ≤ new.broken_reads
  pub later_writes : old.broken_writes ≤ new.broken_writes
  pub counted : served + new.broken_reads + new.broken_writes ≤ new.handed + old.broken_reads + old.broken_writes

-- what comes of the door that a run was given, if any, out of which nothing was handed before: it is given back
abbrev pub ServesAt : (List Selector → List ℕ → Type 0) → ℕ → Option DoorState → Option DoorState → ℕ → Type 0
ServesAt may_show pages None None served = served ≡ 0
ServesAt may_show pages (Some old) (Some new) served = HasServed may_show pages old new served
ServesAt may_show pages _ _ served = ⊥
