-- Talks over a wire, and what a wire is: a client that connects anew for each request, writes it, and reads the reply.
-- RFC 9112, section 9 (one request and one reply on each connection, "Connection: close"); the counts and conditions are the bridge's own.
use Rattle.std.specs.Prelude.{◌≡◌, ℕ, ◌-◌, ◌≤◌, Bool, List, [], ◌∷◌, ◌++◌, length, slice_get, Option, Some, None, option_map, unwrap_or, ⊤}
use Rattle.std.specs.Option.{option_or}
use Rattle.bridge_ports.specs.declared.talk.End.{End}
use Rattle.bridge_ports.specs.declared.talk.End.TheVariants.{ConnectFailed, Ended, Left}
use Rattle.bridge_ports.specs.declared.talk.Talk.{Talk}
use Rattle.bridge_ports.specs.declared.talk.Place.{Place}
use Rattle.bridge_ports.specs.declared.talk.MemoryReply.{MemoryReply}
use Rattle.bridge_ports.specs.declared.talk.Stage.{Stage}
use Rattle.bridge_ports.specs.declared.talk.Stage.TheVariants as stages

-- ---- plans: what a wire in memory is to answer

-- the replies in order, the one past them, the most bytes that one read hands out, the numbers of the calls that fail, and whether what is sent is kept, so that it can be asked for
pub record Plan : Type 0 where
  pub replies : List MemoryReply
  pub after : Option MemoryReply
  pub most : ℕ
  pub failing : List ℕ
  pub keeps : Bool

-- what is answered where no reply is left: no connection, at 0
abbrev pub no_reply : MemoryReply
no_reply = record { at = 0; got = []; end = ConnectFailed }

-- the reply to the talk that so many talks went before
abbrev pub reply_of : Plan → ℕ → MemoryReply
reply_of plan earlier = unwrap_or (option_or (slice_get plan.replies earlier) plan.after) no_reply

-- ---- wires

-- a talk under way: the reading of the clock at its beginning, and the bytes that were sent and got so far
pub record Spoken : Type 0 where
  pub at : ℕ
  pub sent : List ℕ
  pub got : List ℕ

-- what a wire tells: its finished talks, the last first, and the one under way
pub record ToldTalks : Type 0 where
  pub talks : List Talk
  pub now : Spoken

-- a wire: its place, its plan where that is told, how many calls failed, how many more talks it allows of how many sent bytes each, how far it is, how many bytes may still be sent in this talk, and what it tells where it tells
pub record WireState : Type 0 where
  pub place : Place
  pub plan : Option Plan
  pub faults : ℕ
  pub allowed : ℕ
  pub room : ℕ
  pub stage : Stage
  pub left : ℕ
  pub told : Option ToldTalks

-- the talk under way, once it began at this reading
abbrev pub telling_from : ℕ → ToldTalks → ToldTalks
telling_from at t = record t { now = record { at = at; sent = []; got = [] } }

-- the talk under way, with these bytes sent
abbrev pub telling_sent : List ℕ → ToldTalks → ToldTalks
telling_sent bytes t = record t { now = record t.now { sent = t.now.sent ++ bytes } }

-- the talk under way, with these bytes got
abbrev pub telling_got : List ℕ → ToldTalks → ToldTalks
telling_got bytes t = record t { now = record t.now { got = t.now.got ++ bytes } }

-- the talk under way, once it ended in this way
abbrev pub talk_of : End → Spoken → Talk
talk_of end now = record { at = now.at; sent = now.sent; got = now.got; end = end }

-- nothing is said
abbrev pub nothing_said : Spoken
nothing_said = record { at = 0; sent = []; got = [] }

-- the talks, with the one that was under way among them
abbrev pub telling_end : End → ToldTalks → ToldTalks
telling_end end t = record { talks = talk_of end t.now ∷ t.talks; now = nothing_said }

-- the wire once it allows so many talks of so many sent bytes each
abbrev pub made_ready : ℕ → ℕ → WireState → WireState
made_ready count room w = record w { allowed = count; room = room }

-- the wire with a talk that began at this reading
abbrev pub begun_at : ℕ → WireState → WireState
begun_at at w = record w { allowed = w.allowed - 1; stage = stages.Begun; left = w.room; told = option_map (telling_from at) w.told }

-- the wire once these bytes were sent
abbrev pub sent_on : List ℕ → WireState → WireState
sent_on bytes w = record w { left = w.left - length bytes; told = option_map (telling_sent bytes) w.told }

-- the wire once these bytes were got
abbrev pub got_on : List ℕ → WireState → WireState
got_on bytes w = record w { told = option_map (telling_got bytes) w.told }

-- the wire once the talk under way ended in this way
abbrev pub ended_by : End → WireState → WireState
ended_by end w = record w { stage = stages.Idle; told = option_map (telling_end end) w.told }

-- the wire once a call failed, which ends the talk in this way; the count of faults is said apart
abbrev pub failed_at : End → ℕ → WireState → WireState
failed_at end faults w = record (ended_by end w) { faults = faults }

-- the wire once a read gave these bytes; none end the talk
abbrev pub after_read : List ℕ → WireState → WireState
after_read [] w = ended_by Ended w
after_read (b ∷ bytes) w = got_on (b ∷ bytes) w

-- the wire once it was left: the talk under way ends so, where there is one
abbrev pub left_at : Stage → WireState → WireState
left_at stages.Idle w = w
left_at stages.Begun w = ended_by Left w
left_at stages.Connected w = ended_by Left w

-- no talk is under way, and so many talks of so many sent bytes each are allowed
pub record AllowsTalks (talks room : ℕ) (w : WireState) : Type 0 where
  pub idle_now : w.stage ≡ stages.Idle
  pub talks_left : talks ≤ w.allowed
  pub room_each : room ≤ w.room

-- what is said of the talks before and after holds where the wire tells, and it goes on telling; a wire that tells nothing goes on so
abbrev pub Tells : (List Talk → List Talk → Type 0) → Option ToldTalks → Option ToldTalks → Type 0
Tells Says (Some old) (Some new) = Says old.talks new.talks
Tells Says (Some old) None = ⊥
Tells Says None (Some new) = ⊥
Tells Says None None = ⊤
