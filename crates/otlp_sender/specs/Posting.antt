-- Posts: what a try came to, when another one is due, and that the talks over a wire are the tries of texts, in order.
-- OpenTelemetry protocol, "OTLP/HTTP Response", "Failures" and "Retryable Response Codes"; the number of tries is the bridge's own.
use Rattle.std.specs.Prelude.{◌≡◌, ◌≢◌, ◌↔◌, ◌⊎◌, ℕ, ◌+◌, ◌≤◌, Bool, true, false, ◌==◌, ◌&&◌, List, [], ◌∷◌, ◌++◌, length, nat_le, nat_lt, if◌then◌else◌, ⊤}
use Rattle.std.specs.List.{list_any}
use Rattle.bridge_ports.specs.declared.talk.End.{End}
use Rattle.bridge_ports.specs.declared.talk.End.TheVariants as ends
use Rattle.bridge_ports.specs.declared.talk.Talk.{Talk}
use Rattle.bridge_ports.specs.Causes.{Rose}
use Rattle.bridge_ports.specs.Talks.{WireState, Tells}
use Rattle.bridge_ports.specs.declared.talk.Stage.TheVariants as stages
use Rattle.http_talk.specs.declared.seen.HeadSeen.{HeadSeen}
use Rattle.http_talk.specs.declared.seen.HeadSeen.TheVariants as seen
use Rattle.http_talk.specs.Heads.{Shows}
use Rattle.http_talk.specs.Replies.{IsSent}
use Rattle.otlp_sender.specs.declared.posted.Try.{Try}
use Rattle.otlp_sender.specs.declared.posted.Try.TheVariants as tries
use Rattle.otlp_sender.specs.declared.posted.Posted.{Posted}
use Rattle.otlp_sender.specs.declared.posted.Posted.TheVariants as posted

-- ---- one try

-- a talk is a try of this text: all of it was sent, unless connecting or writing failed, and the talk was left just where the reply's head is settled
pub record IsRightTry (text : List ℕ) (talk : Talk) : Type 0 where
  pub sent : IsSent talk.end text talk.sent
  pub what : HeadSeen
  pub shown : Shows talk.got what
  pub left : (talk.end ≡ ends.Left) ↔ (what ≢ seen.More)

-- what a settled head comes to
abbrev pub try_seen : HeadSeen → Try
try_seen (seen.Status status) = tries.Status status
try_seen _ = tries.NoHead

-- what a try came to, by its end, and where it was left by the head of its reply
abbrev pub IsTryBy : End → List ℕ → Try → Type 0
IsTryBy ends.ConnectFailed got t = t ≡ tries.Connect
IsTryBy ends.WriteFailed got t = t ≡ tries.Write
IsTryBy ends.ReadFailed got t = t ≡ tries.Read
IsTryBy ends.Ended got t = t ≡ tries.NoHead
IsTryBy ends.Left got t = (what : HeadSeen) × Shows got what × (t ≡ try_seen what)

-- the right try came to this
abbrev pub HasPostVerdict : Talk → Try → Type 0
HasPostVerdict talk t = IsTryBy talk.end talk.got t

-- the statuses after which another try is due
abbrev pub is_retryable : ℕ → Bool
is_retryable status = list_any (λ n. n == status) (429 ∷ 502 ∷ 503 ∷ 504 ∷ [])

-- another try is due
abbrev pub is_open : Try → Bool
is_open (tries.Status status) = is_retryable status
is_open _ = true

-- ---- the tries of one text

-- a try after which another one is due
pub record IsOpenTry (text : List ℕ) (talk : Talk) : Type 0 where
  pub right : IsRightTry text talk
  pub verdict : Try
  pub verdict_is : HasPostVerdict talk verdict
  pub open_verdict : is_open verdict ≡ true

-- each of these talks is one
abbrev pub AreOpenTries : List ℕ → List Talk → Type 0
AreOpenTries text [] = ⊤
AreOpenTries text (talk ∷ earlier) = IsOpenTry text talk × AreOpenTries text earlier

-- the talks, the last first, are the tries of one text: another one was due after each but the last, which ended them or was as many as there may be
pub record IsPostRun (most : ℕ) (text : List ℕ) (talks : List Talk) (last : Try) : Type 0 where
  pub talk : Talk
  pub earlier : List Talk
  pub talks_are : talks ≡ talk ∷ earlier
  pub right : IsRightTry text talk
  pub verdict : HasPostVerdict talk last
  pub before : AreOpenTries text earlier
  pub few : length talks ≤ most
  pub ended : (is_open last ≡ false) ⊎ (length talks ≡ most)

-- what the tries of a text came to, by the last of them
abbrev pub posted_of : Try → Posted
posted_of (tries.Status status) =
    if is_retryable status then posted.GivenUp (tries.Status status)
    else if nat_le 200 status && nat_lt status 300 then posted.Accepted status
    else posted.Refused status
posted_of t = posted.GivenUp t

-- ---- the tries of many texts

-- the talks are the tries of the texts, each with what its last try came to; all have the last first
abbrev pub ArePosted : ℕ → List (List ℕ) → List Talk → List Try → Type 0
ArePosted most [] talks lasts = (talks ≡ []) × (lasts ≡ [])
ArePosted most (text ∷ texts) talks [] = ⊥
ArePosted most (text ∷ texts) talks (last ∷ lasts) =
    (run : List Talk) × (before : List Talk) × (talks ≡ run ++ before) × IsPostRun most text run last × ArePosted most texts before lasts

-- the talks are the tries of the texts
abbrev pub PostsInOrder : ℕ → List (List ℕ) → List Talk → Type 0
PostsInOrder most texts talks = (lasts : List Try) × ArePosted most texts talks lasts

-- ---- what a call of `post` did to a wire

-- the last try failed by the wire
abbrev pub IsWireTry : Try → Type 0
IsWireTry tries.Connect = ⊤
IsWireTry tries.Write = ⊤
IsWireTry tries.Read = ⊤
IsWireTry _ = ⊥

-- where the wire tells, its talks grew by the tries of the text
abbrev pub GrewByRun : ℕ → List ℕ → Try → List Talk → List Talk → Type 0
GrewByRun most text last old new = (run : List Talk) × (new ≡ run ++ old) × IsPostRun most text run last

-- the wire made the tries of a text, and is free again
pub record IsPosting (most : ℕ) (text : List ℕ) (old new : WireState) (result : Posted) : Type 0 where
  pub last : Try
  pub result_is : result ≡ posted_of last
  pub free : new.stage ≡ stages.Idle
  pub place : new.place ≡ old.place
  pub plan : new.plan ≡ old.plan
  pub later : old.faults ≤ new.faults
  pub rose : IsWireTry last → Rose old.faults new.faults
  pub tries : ℕ
  pub counted : (1 ≤ tries) × (tries ≤ most) × (new.allowed + tries ≡ old.allowed)
  pub ended : (is_open last ≡ false) ⊎ (tries ≡ most)
  pub told : Tells (GrewByRun most text last) old.told new.told
