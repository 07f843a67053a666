-- Wires in memory: what their type keeps of the talks that they made.
-- The bridge's own.
use Rattle.std.specs.Prelude.{◌≡◌, ◌≢◌, ℕ, ◌+◌, ◌-◌, ◌^◌, ◌≤◌, ◌⊎◌, min, Bool, List, [], ◌∷◌, ◌++◌, length, take, drop, slice_get, Contains, Option, Some, None, ⊤}
use Rattle.bridge_ports.specs.declared.talk.End.{End}
use Rattle.bridge_ports.specs.declared.talk.End.TheVariants.{ConnectFailed, WriteFailed, ReadFailed, Ended, Left}
use Rattle.bridge_ports.specs.declared.talk.Talk.{Talk}
use Rattle.bridge_ports.specs.declared.talk.Place.{Place}
use Rattle.bridge_ports.specs.declared.talk.MemoryReply.{MemoryReply}
use Rattle.bridge_ports.specs.declared.talk.Stage.{Stage}
use Rattle.bridge_ports.specs.declared.talk.Stage.TheVariants as stages
use Rattle.bridge_ports.specs.declared.kept.Kept.{Kept}
use Rattle.bridge_ports.specs.InMemory.{one_more}
use Rattle.bridge_ports.specs.Keeping.{KeptState}
use Rattle.bridge_ports.specs.Talks.{Plan, reply_of, Spoken, nothing_said, talk_of, WireState}

-- a wire in memory: its place and plan, its counts of faults, of calls and of calls of `ready`, the call of `ready` that answers want of memory, what it allows, how far it is, and its talks, the last first
pub record MemoryState : Type 0 where
  pub place : Place
  pub plan : Plan
  pub faults : ℕ
  pub calls : ℕ
  pub readies : ℕ
  pub lean : Option ℕ
  pub allowed : ℕ
  pub room : ℕ
  pub stage : Stage
  pub left : ℕ
  pub talks : List Talk
  pub now : Spoken

-- what is seen of it as a wire: it tells all, kept or not
abbrev pub seen_of : MemoryState → WireState
seen_of m = record {
  place = m.place;
  plan = Some m.plan;
  faults = m.faults;
  allowed = m.allowed;
  room = m.room;
  stage = m.stage;
  left = m.left;
  told = Some (record { talks = m.talks; now = m.now });
}

-- a wire that was just made
abbrev pub new_wire : Place → Plan → MemoryState
new_wire place plan = record {
  place = place;
  plan = plan;
  faults = 0;
  calls = 0;
  readies = 0;
  lean = None;
  allowed = 0;
  room = 0;
  stage = stages.Idle;
  left = 0;
  talks = [];
  now = nothing_said;
}

-- the reply that the talk under way gets
abbrev pub reply_now : MemoryState → MemoryReply
reply_now m = reply_of m.plan (length m.talks)

-- those of its bytes that were not read yet
abbrev pub unread_bytes : MemoryState → List ℕ
unread_bytes m = drop (length m.now.got) (reply_now m).got

-- the reply itself fails a call that would end a talk so: a read only behind its last byte
abbrev pub FailsBy : End → MemoryState → Type 0
FailsBy ConnectFailed m = (reply_now m).end ≡ ConnectFailed
FailsBy WriteFailed m = (reply_now m).end ≡ WriteFailed
FailsBy ReadFailed m = ((reply_now m).end ≡ ReadFailed) × (unread_bytes m ≡ [])
FailsBy _ m = ⊥

-- the call of this number, which would end a talk so, fails: it is named to, or the reply has it so
abbrev pub Fails : End → MemoryState → ℕ → Type 0
Fails end m number = Contains m.plan.failing number ⊎ FailsBy end m

-- how the bytes that were sent and got and the end go with the reply; a call that fails was named to, or the reply has it so
abbrev pub EndsAs : End → List ℕ → MemoryReply → List ℕ → List ℕ → Type 0
EndsAs ConnectFailed failing reply sent got = (sent ≡ []) × (got ≡ []) × (failing ≡ [] → reply.end ≡ ConnectFailed)
EndsAs WriteFailed failing reply sent got = (reply.end ≢ ConnectFailed) × (failing ≡ [] → reply.end ≡ WriteFailed)
EndsAs ReadFailed failing reply sent got = (reply.end ≢ ConnectFailed) × (failing ≡ [] → (reply.end ≡ ReadFailed) × (got ≡ reply.got))
EndsAs Ended failing reply sent got = (reply.end ≢ ConnectFailed) × (reply.end ≢ ReadFailed) × (got ≡ reply.got)
EndsAs Left failing reply sent got = ⊤

-- a talk, under way or finished, is one that this reply gives
pub record Follows (reply : MemoryReply) (at : ℕ) (sent got : List ℕ) : Type 0 where
  pub at_is : at ≡ reply.at
  pub front : (rest : List ℕ) × (reply.got ≡ got ++ rest)
  pub silent : (reply.end ≡ ConnectFailed) ⊎ (reply.end ≡ WriteFailed) → sent ≡ []
  pub deaf : reply.end ≡ ConnectFailed → got ≡ []

-- a finished talk is one that this reply gives
pub record IsTalkOf (failing : List ℕ) (reply : MemoryReply) (talk : Talk) : Type 0 where
  pub follows : Follows reply talk.at talk.sent talk.got
  pub ends : EndsAs talk.end failing reply talk.sent talk.got

-- each of the talks, the last first, is one that the reply of its number gives
abbrev pub AreTalksOf : Plan → List Talk → Type 0
AreTalksOf plan [] = ⊤
AreTalksOf plan (talk ∷ earlier) = IsTalkOf plan.failing (reply_of plan (length earlier)) talk × AreTalksOf plan earlier

-- the talk under way is one that its reply gives
abbrev pub GoesOn : Stage → MemoryReply → Spoken → Type 0
GoesOn stages.Idle reply now = ⊤
GoesOn stages.Begun reply now = (now.at ≡ reply.at) × (now.sent ≡ []) × (now.got ≡ [])
GoesOn stages.Connected reply now = Follows reply now.at now.sent now.got × (reply.end ≢ ConnectFailed)

-- the talks that were made and the one under way are those that the plan gives
pub record FollowsPlan (plan : Plan) (talks : List Talk) (stage : Stage) (now : Spoken) : Type 0 where
  pub some_bytes : 1 ≤ plan.most
  pub past : AreTalksOf plan talks
  pub present : GoesOn stage (reply_of plan (length talks)) now

-- what the type of a wire in memory keeps
abbrev pub IsOfPlan : MemoryState → Type 0
IsOfPlan m = FollowsPlan m.plan m.talks m.stage m.now

-- the talk under way may end in this way: the call that ends it was made at its place and fails, or the peer has no byte more, or it is left
abbrev pub MayEnd : End → MemoryState → Type 0
MayEnd ConnectFailed m = (m.stage ≡ stages.Begun) × Fails ConnectFailed m m.calls
MayEnd WriteFailed m = (m.stage ≡ stages.Connected) × Fails WriteFailed m m.calls
MayEnd ReadFailed m = (m.stage ≡ stages.Connected) × Fails ReadFailed m m.calls
MayEnd Ended m = (m.stage ≡ stages.Connected) × ((reply_now m).end ≢ ReadFailed) × (unread_bytes m ≡ [])
MayEnd Left m = m.stage ≢ stages.Idle

-- the wire once the talk under way ended in this way
abbrev pub talk_ended : End → MemoryState → MemoryState
talk_ended end m = record m { talks = talk_of end m.now ∷ m.talks; stage = stages.Idle; now = nothing_said }

-- the wire once a call failed, which ends the talk in this way
abbrev pub call_failed : End → MemoryState → MemoryState
call_failed end m = record (talk_ended end m) { faults = one_more m.faults }

-- one more call was counted
abbrev pub call_counted : MemoryState → MemoryState
call_counted m = record m { calls = one_more m.calls }

-- the number of the next call of `ready`, which stands still at the last value of a u32
abbrev pub next_ready : ℕ → ℕ
next_ready calls = min (calls + 1) (2 ^ 32 - 1)

-- the finished talk of this number, counted from 1
abbrev pub talk_at : List Talk → ℕ → Option Talk
talk_at talks number = slice_get talks (length talks - number)

-- ---- how a wire in memory keeps its talks

-- the talk that so many talks went before, as it is told: its reply is not copied
abbrev pub kept_talk : Plan → ℕ → Kept → Talk
kept_talk plan earlier k = record { at = (reply_of plan earlier).at; sent = k.all.bytes; got = take k.read (reply_of plan earlier).got; end = k.end }

-- behind these talks, those that are kept in their order
abbrev pub kept_talks : Plan → List Talk → List Kept → List Talk
kept_talks plan earlier [] = earlier
kept_talks plan earlier (k ∷ ks) = kept_talks plan (kept_talk plan (length earlier) k ∷ earlier) ks

-- the plan of a wire that was made so, by whether what is sent is kept
abbrev pub kept_plan : List MemoryReply → Option MemoryReply → ℕ → List ℕ → Bool → Plan
kept_plan replies after most failing keeps = record { replies = replies; after = after; most = most; failing = failing; keeps = keeps }

-- the talk under way, behind so many talks, as it is kept
abbrev pub kept_now : Plan → ℕ → ℕ → List ℕ → ℕ → Spoken
kept_now plan earlier at sent read = record { at = at; sent = sent; got = take read (reply_of plan earlier).got }

-- what is seen of the fields of a wire in memory
abbrev pub memory_state : Place → (Bool → Plan) → ℕ → ℕ → ℕ → Option ℕ → KeptState → MemoryState
memory_state place plan faults calls readies lean t = record {
  place = place;
  plan = plan t.keeps;
  faults = faults;
  calls = calls;
  readies = readies;
  lean = lean;
  allowed = t.allowed;
  room = t.room;
  stage = t.stage;
  left = t.left;
  talks = kept_talks (plan t.keeps) [] t.kept;
  now = kept_now (plan t.keeps) (length t.kept) t.at t.sent t.read;
}

-- the kept talks follow the plan, and no more was read than the reply under way has
pub record KeepsPlan (plan : Bool → Plan) (t : KeptState) : Type 0 where
  pub follows : FollowsPlan (plan t.keeps) (kept_talks (plan t.keeps) [] t.kept) t.stage (kept_now (plan t.keeps) (length t.kept) t.at t.sent t.read)
  pub within : t.read ≤ length (reply_of (plan t.keeps) (length t.kept)).got

-- how often `ready` was called, and which of its calls answers want of memory, stay
pub record KeepsReadies (old new : MemoryState) : Type 0 where
  pub readies : new.readies ≡ old.readies
  pub lean : new.lean ≡ old.lean
