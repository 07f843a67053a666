-- The steps of one try of a post over a wire.
-- The bridge's own.
use Rattle.std.specs.Prelude.{◌≡◌, ◌≢◌, ◌↔◌, ℕ, ◌+◌, ◌≤◌, List, ◌∷◌, ◌++◌, length}
use Rattle.bridge_ports.specs.declared.talk.End.{End}
use Rattle.bridge_ports.specs.declared.talk.End.TheVariants as ends
use Rattle.bridge_ports.specs.declared.talk.Talk.{Talk}
use Rattle.bridge_ports.specs.declared.talk.Stage.TheVariants as stages
use Rattle.bridge_ports.specs.Causes.{Rose}
use Rattle.bridge_ports.specs.Talks.{WireState, Tells, sent_on, got_on, failed_at}
use Rattle.http_talk.specs.declared.seen.HeadSeen.{HeadSeen}
use Rattle.http_talk.specs.declared.seen.HeadSeen.TheVariants as seen
use Rattle.http_talk.specs.Heads.{Shows}
use Rattle.http_talk.specs.Replies.{IsSent}
use Rattle.otlp_sender.specs.declared.posted.Try.{Try}
use Rattle.otlp_sender.specs.Posting.{IsRightTry, HasPostVerdict, IsTryBy, IsWireTry, AreOpenTries}

-- a front of the text was sent, and then a write failed
pub record BrokeOff (text : List ℕ) (old new : WireState) : Type 0 where
  pub sent : List ℕ
  pub rest : List ℕ
  pub text_is : text ≡ sent ++ rest
  pub state : new ≡ failed_at ends.WriteFailed new.faults (sent_on sent old)
  pub later : old.faults ≤ new.faults
  pub rose : Rose old.faults new.faults

-- the talk ended while the reply was read, or was left: just where its head is settled
pub record IsHeadTalk (old new : WireState) (t : Try) : Type 0 where
  pub got : List ℕ
  pub end : End
  pub state : new ≡ failed_at end new.faults (got_on got old)
  pub later : old.faults ≤ new.faults
  pub rose : IsWireTry t → Rose old.faults new.faults
  pub what : HeadSeen
  pub shown : Shows got what
  pub left : (end ≡ ends.Left) ↔ (what ≢ seen.More)
  pub verdict : IsTryBy end got t
  pub connected : end ≢ ends.ConnectFailed
  pub written : end ≢ ends.WriteFailed

-- what came of a talk whose peer is connected: what was sent of the text, and then the same
pub record IsConnectedTalk (text : List ℕ) (old new : WireState) (t : Try) : Type 0 where
  pub sent : List ℕ
  pub got : List ℕ
  pub end : End
  pub state : new ≡ failed_at end new.faults (got_on got (sent_on sent old))
  pub later : old.faults ≤ new.faults
  pub rose : IsWireTry t → Rose old.faults new.faults
  pub text_is : IsSent end text sent
  pub what : HeadSeen
  pub shown : Shows got what
  pub left : (end ≡ ends.Left) ↔ (what ≢ seen.More)
  pub verdict : IsTryBy end got t

-- where the wire tells, there is one talk more, a right try that came to this
abbrev pub GrewByTry : List ℕ → Try → List Talk → List Talk → Type 0
GrewByTry text t old new = (talk : Talk) × (new ≡ talk ∷ old) × IsRightTry text talk × HasPostVerdict talk t

-- the wire made one try of a text, and is free again
pub record IsOneTry (text : List ℕ) (old new : WireState) (t : Try) : Type 0 where
  pub free : new.stage ≡ stages.Idle
  pub place : new.place ≡ old.place
  pub plan : new.plan ≡ old.plan
  pub room : new.room ≡ old.room
  pub later : old.faults ≤ new.faults
  pub rose : IsWireTry t → Rose old.faults new.faults
  pub counted : new.allowed + 1 ≡ old.allowed
  pub told : Tells (GrewByTry text t) old.told new.told

-- where the wire tells, there are so many talks more, each of them a try after which another one is due
abbrev pub GrewByOpenTries : List ℕ → ℕ → List Talk → List Talk → Type 0
GrewByOpenTries text made old new = (run : List Talk) × (new ≡ run ++ old) × AreOpenTries text run × (length run ≡ made)

-- so many tries of a text were made, and another one is due
pub record IsUnderWay (text : List ℕ) (made : ℕ) (old now : WireState) : Type 0 where
  pub free : now.stage ≡ stages.Idle
  pub place : now.place ≡ old.place
  pub plan : now.plan ≡ old.plan
  pub room : now.room ≡ old.room
  pub later : old.faults ≤ now.faults
  pub counted : now.allowed + made ≡ old.allowed
  pub told : Tells (GrewByOpenTries text made) old.told now.told
