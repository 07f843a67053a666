-- What a scraped reply comes to, by its bytes and by the end of the talk.
-- RFC 9112, section 6 (message body) and section 8 (incomplete messages); the order of causes is the bridge's own.
use Rattle.std.specs.Prelude.{◌≡◌, ◌↔◌, ℕ, ◌≤◌, Bool, true, false, List, [], ◌∷◌, ◌++◌, length, take, Option, Some, None, nat_lt, nat_le, if◌then◌else◌, ⊤}
use Rattle.httparse.specs.Grammar.{ResponseHead, print_response}
use Rattle.label_sets.specs.Lists.{first_some, when_true}
use Rattle.bridge_ports.specs.declared.talk.End.{End}
use Rattle.bridge_ports.specs.declared.talk.End.TheVariants as ends
use Rattle.bridge_ports.specs.declared.talk.Talk.{Talk}
use Rattle.page_model.specs.declared.format.Format.{Format}
use Rattle.page_model.specs.declared.format.Treatment.TheVariants.{Scraped}
use Rattle.page_model.specs.declared.event.Cause.{Cause}
use Rattle.page_model.specs.declared.event.Cause.TheVariants as causes
use Rattle.page_model.specs.declared.event.Outcome.{Outcome}
use Rattle.page_model.specs.declared.event.Outcome.TheVariants as outcomes
use Rattle.page_model.specs.Written.{Setting}
use Rattle.page_model.specs.Pages.{FirstFault, IsPageOf}
use Rattle.http_talk.specs.declared.fault.ReplyFault.{ReplyFault}
use Rattle.http_talk.specs.declared.fault.ReplyFault.TheVariants as faults
use Rattle.http_talk.specs.Heads.{HeadRead, unfinished, missing, found, HeadIs, head_cause, head_format, framing_of, Framing, in_chunks, to_the_end, of_length}
use Rattle.http_talk.specs.Chunks.{Chunks, no_chunks, with_bytes, is_body_end, is_wrong, is_too_much}

-- the least number of bytes that a body may be allowed
abbrev pub least_body_limit : ℕ
least_body_limit = 1024

-- the most bytes that a body may be allowed
abbrev pub most_body_limit : ℕ
most_body_limit = 67108864

-- a limit of the bytes of a body
abbrev pub IsBodyLimit : ℕ → Type 0
IsBodyLimit most = (least_body_limit ≤ most) × (most ≤ most_body_limit)

-- what is certain of a reply: it is refused for this cause, or it is whole, with this body
pub data Verdict : Type 0 where
  refused : Cause → Verdict
  whole : Format → List ℕ → Verdict

-- what is known of a reply that may go on: nothing is certain and it isn't whole, or its body goes on to the end of the connection, or there is a verdict
pub data Judged : Type 0 where
  waits : Judged
  goes_on : Format → List ℕ → Judged
  decided : Verdict → Judged

-- ---- the body

-- a body of n bytes, of which these came, and what follows it
abbrev pub sized_body : ℕ → Format → List ℕ → Judged
sized_body n format rest = if nat_le n (length rest) then decided (whole format (take n rest)) else waits

-- a body that goes to the end, of which these bytes came
abbrev pub open_body : ℕ → Format → List ℕ → Judged
open_body most format rest = if nat_lt most (length rest) then decided (refused causes.TooLong) else goes_on format rest

-- what is certain of chunks: whole goes first, then too many bytes, then a wrong one
unfoldable pub chunks_verdict : ℕ → Format → Chunks → Option Verdict
chunks_verdict most format c = first_some (λ v. v) (
    when_true (is_body_end c.place) (whole format c.held)
    ∷ when_true (is_too_much most c) (refused causes.TooLong)
    ∷ when_true (is_wrong c.place) (refused causes.Chunk)
    ∷ [])

-- there is a verdict, or the reply goes on
abbrev pub or_waits : Option Verdict → Judged
or_waits None = waits
or_waits (Some v) = decided v

-- a body of this framing behind a head of so many bytes
unfoldable pub body_judged : ℕ → ℕ → Framing → Format → List ℕ → Judged
body_judged most head in_chunks format rest = or_waits (chunks_verdict most format (with_bytes most (no_chunks head) rest))
body_judged most head to_the_end format rest = open_body most format rest
body_judged most head (of_length n) format rest = sized_body n format rest

-- ---- the reply

-- behind a head that may be refused, in a format that it may lack
abbrev pub head_judged : ℕ → ResponseHead → List ℕ → Option Cause → Option Format → Judged
head_judged most h rest (Some cause) format = decided (refused cause)
head_judged most h rest None (Some format) = body_judged most (length (print_response h)) (framing_of h) format rest
head_judged most h rest None None = decided (refused causes.MediaType)

-- what is known of a reply whose head is read so, where bodies may have so many bytes
unfoldable pub judged : ℕ → HeadRead → Judged
judged most unfinished = waits
judged most missing = decided (refused causes.Head)
judged most (found h rest) = head_judged most h rest (head_cause most h) (head_format h)

-- this is what is known of a reply that begins with these bytes
pub record IsJudged (most : ℕ) (got : List ℕ) (known : Judged) : Type 0 where
  pub head : HeadRead
  pub head_is : HeadIs got head
  pub known_is : known ≡ judged most head

-- this is certain of a reply that begins with these bytes, at the first byte at which something is
abbrev pub HasVerdict : ℕ → List ℕ → Verdict → Type 0
HasVerdict most got v = IsJudged most got (decided v)

-- ---- talks

-- how a target's page in this format is read
abbrev pub scraped_setting : Format → ℕ → Setting
scraped_setting format limit = record { format = format; treatment = Scraped; limit = limit }

-- what a whole body comes to: its page, or the first fault of it
abbrev pub IsPageOutcome : ℕ → Format → List ℕ → Outcome → Type 0
IsPageOutcome limit format body (outcomes.Page page) = IsPageOf (scraped_setting format limit) body page
IsPageOutcome limit format body (outcomes.Failed (causes.Page line rule)) = FirstFault (scraped_setting format limit) body (line, rule)
IsPageOutcome limit format body (outcomes.Failed _) = ⊥

-- what a verdict comes to
abbrev pub IsVerdictOutcome : ℕ → Verdict → Outcome → Type 0
IsVerdictOutcome limit (refused cause) outcome = outcome ≡ outcomes.Failed cause
IsVerdictOutcome limit (whole format body) outcome = IsPageOutcome limit format body outcome

-- what a reply without a verdict comes to where the peer ends it
abbrev pub IsEndOutcome : ℕ → Judged → Outcome → Type 0
IsEndOutcome limit waits outcome = outcome ≡ outcomes.Failed causes.Truncated
IsEndOutcome limit (goes_on format body) outcome = IsPageOutcome limit format body outcome
IsEndOutcome limit (decided v) outcome = IsVerdictOutcome limit v outcome

-- what a talk without a verdict comes to, by its end
abbrev pub IsOutcomeBy : End → ℕ → Judged → Outcome → Type 0
IsOutcomeBy ends.ConnectFailed limit known outcome = outcome ≡ outcomes.Failed causes.Connect
IsOutcomeBy ends.WriteFailed limit known outcome = outcome ≡ outcomes.Failed causes.Write
IsOutcomeBy ends.ReadFailed limit known outcome = outcome ≡ outcomes.Failed causes.Read
IsOutcomeBy ends.Ended limit known outcome = IsEndOutcome limit known outcome
IsOutcomeBy ends.Left limit known outcome = ⊥

-- what a talk comes to: the verdict goes before the end
abbrev pub IsOutcomeOf : End → ℕ → Judged → Outcome → Type 0
IsOutcomeOf end limit (decided v) outcome = IsVerdictOutcome limit v outcome
IsOutcomeOf end limit known outcome = IsOutcomeBy end limit known outcome

-- the talk of a scrape has this outcome
pub record HasOutcome (limit most : ℕ) (talk : Talk) (outcome : Outcome) : Type 0 where
  pub known : Judged
  pub judged_so : IsJudged most talk.got known
  pub outcome_is : IsOutcomeOf talk.end limit known outcome

-- what was sent of a text: all of it, unless connecting or writing failed
abbrev pub IsSent : End → List ℕ → List ℕ → Type 0
IsSent ends.ConnectFailed text sent = (rest : List ℕ) × (text ≡ sent ++ rest)
IsSent ends.WriteFailed text sent = (rest : List ℕ) × (text ≡ sent ++ rest)
IsSent _ text sent = sent ≡ text

-- nothing was got where connecting or writing failed
abbrev pub IsGot : End → List ℕ → Type 0
IsGot ends.ConnectFailed got = got ≡ []
IsGot ends.WriteFailed got = got ≡ []
IsGot _ got = ⊤

-- there is a verdict
abbrev pub is_decided : Judged → Bool
is_decided (decided v) = true
is_decided _ = false

-- what was sent, got and how it ended fit together: the talk was left just where there is a verdict
pub record IsWholeTalk (most : ℕ) (text : List ℕ) (talk : Talk) : Type 0 where
  pub sent : IsSent talk.end text talk.sent
  pub got : IsGot talk.end talk.got
  pub known : Judged
  pub judged_so : IsJudged most talk.got known
  pub left : (talk.end ≡ ends.Left) ↔ (is_decided known ≡ true)

-- ---- the answers of a reader of replies

-- the cause that a fault stands for; want of memory stands for none
abbrev pub cause_of : ReplyFault → Option Cause
cause_of faults.Head = Some causes.Head
cause_of (faults.Status status) = Some (causes.Status status)
cause_of faults.Encoding = Some causes.Encoding
cause_of faults.MediaType = Some causes.MediaType
cause_of faults.TooLong = Some causes.TooLong
cause_of faults.Chunk = Some causes.Chunk
cause_of faults.Truncated = Some causes.Truncated
cause_of faults.Memory = None
