-- One request and its reply over a wire.
-- RFC 9112, section 9; the order of causes is the bridge's own.
use Rattle.std.specs.Prelude.{◌≡◌, ◌≢◌, ◌↔◌, ℕ, ◌≤◌, true, List, ◌∷◌, ◌++◌, length, Result, Ok, Err, IfOk, false, ⊤}
use Rattle.bridge_ports.specs.declared.talk.Talk.{Talk}
use Rattle.bridge_ports.specs.declared.talk.End.{End}
use Rattle.bridge_ports.specs.declared.talk.End.TheVariants as ends
use Rattle.bridge_ports.specs.declared.talk.Stage.TheVariants as stages
use Rattle.bridge_ports.specs.Causes.{Rose}
use Rattle.bridge_ports.specs.Talks.{WireState, Tells, sent_on, got_on, ended_by, failed_at}
use Rattle.page_model.specs.declared.event.Outcome.{Outcome}
use Rattle.http_talk.specs.Replies.{Judged, IsJudged, is_decided, IsOutcomeOf, HasOutcome, IsWholeTalk}
use Rattle.scrape_client.specs.declared.page_reply.PageReply.{PageReply}
use Rattle.scrape_client.specs.PageReplies.{ReadsPage, most_of}
use Rattle.scrape_client.specs.Scraping.{IsWireFault}

-- the wire failed, not its peer
abbrev pub BlamesWire : {E : Type 0} → Result Outcome E → Type 0
BlamesWire (Ok outcome) = IsWireFault outcome
BlamesWire (Err e) = ⊥

-- a count of faults rose just where the wire failed
pub record RoseByWire {E : Type 0} (before now : ℕ) (said : Result Outcome E) : Type 0 where
  pub later : before ≤ now
  pub rose : BlamesWire said → Rose before now
  pub kept : (BlamesWire said → ⊥) → now ≡ before

-- ---- what a reply comes to

-- bytes come to this outcome where the talk ends so
pub record IsOutcomeAt (limit most : ℕ) (got : List ℕ) (end : End) (outcome : Outcome) : Type 0 where
  pub known : Judged
  pub judged_so : IsJudged most got known
  pub outcome_is : IsOutcomeOf end limit known outcome

-- the same, of a talk that was left just where there is a verdict
pub record IsOutcomeIn (limit most : ℕ) (got : List ℕ) (end : End) (outcome : Outcome) : Type 0 where
  pub known : Judged
  pub judged_so : IsJudged most got known
  pub outcome_is : IsOutcomeOf end limit known outcome
  pub left : (end ≡ ends.Left) ↔ (is_decided known ≡ true)

-- the reply was read, and the wire is free again
pub record IsReplyRead {E : Type 0} (limit most : ℕ) (old new : WireState) (said : Result Outcome E) : Type 0 where
  pub got : List ℕ
  pub end : End
  pub behind : (end ≢ ends.ConnectFailed) × (end ≢ ends.WriteFailed)
  pub wire : new ≡ record (ended_by end (got_on got old)) { faults = new.faults }
  pub faults : RoseByWire old.faults new.faults said
  pub outcome : IfOk said (IsOutcomeIn limit most got end)

-- a reply was fed what was got so far, and nothing is certain
pub record ReadsOn (limit most : ℕ) (old now : WireState) (reply : PageReply) (count : ℕ) : Type 0 where
  pub fed : List ℕ
  pub reads : ReadsPage limit fed reply
  pub most_is : most_of reply ≡ most
  pub known : Judged
  pub judged_so : IsJudged most fed known
  pub goes_on : is_decided known ≡ false
  pub wire : now ≡ got_on fed old
  pub count_is : count ≡ length fed

-- ---- a talk

-- a text was sent, or a write failed behind a front of it
abbrev pub SendsText : {E : Type 0} → List ℕ → WireState → WireState → Result ⊤ E → Type 0
SendsText text old new (Ok u) = new ≡ sent_on text old
SendsText text old new (Err e) = (sent : List ℕ) × (rest : List ℕ) × (text ≡ sent ++ rest) × (new ≡ failed_at ends.WriteFailed new.faults (sent_on sent old))

-- the wire made this talk, and is free again
pub record HasTalked (old new : WireState) (talk : Talk) : Type 0 where
  pub free : new.stage ≡ stages.Idle
  pub place : new.place ≡ old.place
  pub plan : new.plan ≡ old.plan
  pub told : Tells (λ earlier now. now ≡ talk ∷ earlier) old.told new.told

-- a whole talk of a text came to this outcome
pub record IsTalkOver (limit most : ℕ) (text : List ℕ) (talk : Talk) (outcome : Outcome) : Type 0 where
  pub whole_talk : IsWholeTalk most text talk
  pub outcome_is : HasOutcome limit most talk outcome

-- one talk of a text was made that began at this reading
pub record IsExchange {E : Type 0} (limit most at : ℕ) (text : List ℕ) (old new : WireState) (said : Result Outcome E) : Type 0 where
  pub talk : Talk
  pub at_is : talk.at ≡ at
  pub talked : HasTalked old new talk
  pub over : IfOk said (IsTalkOver limit most text talk)
  pub faults : RoseByWire old.faults new.faults said
