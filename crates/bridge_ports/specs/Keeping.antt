-- How a wire in memory keeps what was sent, in memory that is taken beforehand, or tells it without keeping it.
-- The bridge's own.
use Rattle.std.specs.Prelude.{◌≡◌, ℕ, ◌+◌, ◌-◌, ◌≤◌, Bool, true, false, List, [], ◌∷◌, ◌++◌, All, length, take, vec_len, vec_capacity, ⊤}
use Rattle.std.specs.declared.vec.Vec.{Vec}
use Rattle.std.specs.declared.alloc.Global.{Global}
use Rattle.bridge_ports.specs.declared.talk.End.{End}
use Rattle.bridge_ports.specs.declared.talk.Stage.{Stage}
use Rattle.bridge_ports.specs.declared.talk.Stage.TheVariants as stages
use Rattle.bridge_ports.specs.declared.kept.Kept.{Kept}

-- the finished talks in their order, how many more of how many sent bytes each may come, whether what is sent is kept, how far the talk under way is, the reading at its beginning, the bytes sent and those of them that are kept, how many bytes of its reply were read, and how many bytes may still be sent
pub record KeptState : Type 0 where
  pub kept : List Kept
  pub allowed : ℕ
  pub room : ℕ
  pub keeps : Bool
  pub stage : Stage
  pub at : ℕ
  pub sent : List ℕ
  pub held : List ℕ
  pub read : ℕ
  pub left : ℕ

-- no talk was made, and none is allowed
abbrev pub no_talks : KeptState
no_talks = record { kept = []; allowed = 0; room = 0; keeps = true; stage = stages.Idle; at = 0; sent = []; held = []; read = 0; left = 0 }

-- of so many bytes so many are kept: all or none
abbrev pub kept_of : Bool → ℕ → ℕ
kept_of true count = count
kept_of false count = 0

-- once these bytes were sent
abbrev pub kept_sent : List ℕ → KeptState → KeptState
kept_sent bytes t = record t {
  sent = t.sent ++ bytes;
  held = t.held ++ take (kept_of t.keeps (length bytes)) bytes;
  left = t.left - length bytes;
}

-- once the talk under way ended in this way
abbrev pub kept_to : End → KeptState → KeptState
kept_to end t = record t {
  kept = t.kept ++ record { all = record { bytes = t.sent }; sent = t.held; read = t.read; end = end } ∷ [];
  stage = stages.Idle;
  at = 0;
  sent = [];
  held = [];
  read = 0;
}

-- a buffer that holds nothing and takes so many bytes
pub record IsSpare (room : ℕ) (buffer : Vec ℕ Global) : Type 0 where
  pub empty : buffer.items ≡ []
  pub takes : room ≤ vec_capacity buffer

-- how many talks are under way
abbrev pub under_way : Stage → ℕ
under_way stages.Idle = 0
under_way stages.Begun = 1
under_way stages.Connected = 1

-- in a talk under way so many bytes more may be kept
abbrev pub TakesMore : Stage → ℕ → Vec ℕ Global → Type 0
TakesMore stages.Idle more held = ⊤
TakesMore stages.Begun more held = vec_len held + more ≤ vec_capacity held
TakesMore stages.Connected more held = vec_len held + more ≤ vec_capacity held

-- there is room for all that may come: a buffer for each talk that is allowed, a place for each that is not finished, and the bytes of the one under way; where nothing is kept the buffers take nothing
pub record KeepsRoom (keeps : Bool) (stage : Stage) (room left : ℕ) (kept : Vec Kept Global) (spares : Vec (Vec ℕ Global) Global) (held : Vec ℕ Global) : Type 0 where
  pub each : All (IsSpare (kept_of keeps room)) spares.items
  pub places : vec_len kept + (vec_len spares + under_way stage) ≤ vec_capacity kept
  pub more : TakesMore stage (kept_of keeps left) held

-- all bytes that were sent in a finished talk are kept
abbrev pub IsAllKept : Kept → Type 0
IsAllKept k = k.sent ≡ k.all.bytes

-- where what is sent is kept, it is kept whole: of the finished talks, and of the one under way
pub record KeepsBytes (keeps : Bool) (kept : List Kept) (sent held : List ℕ) : Type 0 where
  pub finished : keeps ≡ true → All IsAllKept kept
  pub under : keeps ≡ true → held ≡ sent
