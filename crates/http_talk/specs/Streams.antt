-- Streams of a reply: what they were fed, what they told of its head, and which bytes of its body they gave.
-- RFC 9112, sections 4 to 8; the limits are the bridge's own.
use Rattle.std.specs.Prelude.{◌≡◌, ◌≢◌, ◌⊎◌, ℕ, ◌+◌, ◌*◌, ◌<◌, ◌≤◌, false, List, [], ◌++◌, length, take, slice_range, ◌==◌, if◌then◌else◌, Option, Some, None, Result, Ok, Err, ⊤}
use Rattle.httparse.specs.Grammar.{ResponseHead, print_response}
use Rattle.page_model.specs.declared.event.Cause.{Cause}
use Rattle.page_model.specs.declared.format.Format.{Format}
use Rattle.http_talk.specs.declared.part.Part.{Part}
use Rattle.http_talk.specs.declared.part.Part.TheVariants as parts
use Rattle.http_talk.specs.declared.flow.Flow.{Flow}
use Rattle.http_talk.specs.declared.flow.Flow.TheVariants as flows
use Rattle.http_talk.specs.declared.flow.Step.{Step}
use Rattle.http_talk.specs.declared.flow.Turn.{Turn}
use Rattle.http_talk.specs.declared.flow.Turn.TheVariants as turns
use Rattle.http_talk.specs.declared.fault.Progress.{Progress}
use Rattle.http_talk.specs.declared.fault.Progress.TheVariants as progresses
use Rattle.http_talk.specs.declared.fault.ReplyFault.{ReplyFault}
use Rattle.http_talk.specs.declared.fault.ReplyFault.TheVariants as faults
use Rattle.http_talk.specs.HeadFacts.{IsHeadFault, first_part}
use Rattle.http_talk.specs.Heads.{unfinished, found, HeadIs, head_cause, head_format, framing_of, Framing, in_chunks, to_the_end, of_length}
use Rattle.http_talk.specs.Chunks.{no_chunks, with_bytes}
use Rattle.http_talk.specs.ChunkFeeding.{IsChunkPlace}
use Rattle.http_talk.specs.Replies.{Judged, waits, goes_on, refused, whole, IsJudged, HasVerdict, is_decided}
use Rattle.http_talk.specs.ReplyReading.{Reader, HasBody, Stands, IsRefusal, kept_by, progress_of}

-- a stream: how many bytes a body may have, what it is reading, the format of the body, what it keeps of a head that is not there yet, how many bytes of the body it gave, how many bytes came in all, and what stopped it
pub record Streaming : Type 0 where
  pub most : ℕ
  pub part : Part
  pub format : Format
  pub kept : List ℕ
  pub body : ℕ
  pub got : ℕ
  pub stopped : Option ReplyFault

-- what a stream told of the head: nothing before its last byte, and then the format of the body
abbrev pub told_at : Part → Format → Option Format
told_at parts.Head format = None
told_at part format = Some format

-- what a stream told of the head, by what it is reading
abbrev pub told_of_head : Streaming → Option Format
told_of_head s = told_at s.part s.format

-- the numbers of what a stream is reading are within the limits, where it gave so many bytes of the body
abbrev pub IsSoundPart : Part → ℕ → ℕ → Type 0
IsSoundPart (parts.Sized n) most body = body < n
IsSoundPart parts.Open most body = body ≤ most
IsSoundPart (parts.Chunked place) most body = IsChunkPlace place
IsSoundPart part most body = ⊤

-- ---- what was given of a reply

-- the bytes of a body of this framing behind a head of so many bytes, of which these came
abbrev pub body_front : ℕ → ℕ → Framing → List ℕ → List ℕ
body_front most head in_chunks rest = (with_bytes most (no_chunks head) rest).held
body_front most head to_the_end rest = rest
body_front most head (of_length n) rest = take n rest

-- of a reply that begins with these bytes, this was told of the head, and these are the bytes of the body that came
abbrev pub HasGiven : ℕ → List ℕ → Option Format → List ℕ → Type 0
HasGiven most fed None given = (given ≡ []) × HeadIs fed unfinished
HasGiven most fed (Some format) given =
    (framing : Framing) × (b : HasBody most fed format framing) × (given ≡ body_front most (length (print_response b.head)) framing b.rest)

-- the reader that keeps what the stream gave
abbrev pub reader_with : Streaming → List ℕ → Reader
reader_with s given = record { most = s.most; part = s.part; format = s.format; kept = kept_by s.part s.kept given; got = s.got; stopped = s.stopped }

-- a stream was fed these bytes, none of which is refused, and gave these bytes, which are all that came of the body
pub record Flows (fed given : List ℕ) (s : Streaming) : Type 0 where
  pub gave : HasGiven s.most fed (told_of_head s) given
  pub unrefused : (cause : Cause) → HasVerdict s.most fed (refused cause) → ⊥
  pub count : s.body ≡ length given
  pub stands : Stands fed (reader_with s given)

-- it has refused, and answers this
abbrev pub HasEnded : ReplyFault → Streaming → Type 0
HasEnded fault s = s.stopped ≡ Some fault

-- ---- the answers

-- the piece is used up, and nothing is certain
pub record IsUsedUp (fed given : List ℕ) (used : ℕ) (piece : List ℕ) (old new : Streaming) : Type 0 where
  pub all : used ≡ length piece
  pub told : told_of_head new ≡ told_of_head old
  pub flows_on : Flows (fed ++ piece) given new
  pub known : Judged
  pub judged_so : IsJudged new.most (fed ++ piece) known
  pub undecided : is_decided known ≡ false

-- the bytes that were taken end with the last byte of the head, and this is told of it
pub record EndsHead (format : Format) (fed given taken : List ℕ) (old new : Streaming) : Type 0 where
  pub first : told_of_head old ≡ None
  pub told : told_of_head new ≡ Some format
  pub none : given ≡ []
  pub head : ResponseHead
  pub ends : HeadIs (fed ++ taken) (found head [])
  pub flows_on : Flows (fed ++ taken) [] new

-- bytes of the piece are the next ones of the body, and the last that were taken
pub record GivesBody (from to : ℕ) (fed given : List ℕ) (used : ℕ) (piece : List ℕ) (old new : Streaming) : Type 0 where
  pub some : from < to
  pub last : used ≡ to
  pub told : told_of_head new ≡ told_of_head old
  pub flows_on : Flows (fed ++ take used piece) (given ++ slice_range piece from to) new

-- the reply is whole, and all of its body was given before
pub record IsAllGiven (fed given taken : List ℕ) (old new : Streaming) : Type 0 where
  pub format : Format
  pub before : told_of_head old ≡ Some format
  pub told : told_of_head new ≡ told_of_head old
  pub verdict : HasVerdict new.most (fed ++ taken) (whole format given)
  pub flows_on : Flows (fed ++ taken) given new

-- what a piece gives to a stream that was fed these bytes and gave these, where so many of its bytes are taken
abbrev pub FlowAnswer : List ℕ → List ℕ → List ℕ → ℕ → Streaming → Streaming → Result Flow ReplyFault → Type 0
FlowAnswer fed given piece used old new (Ok flows.More) = IsUsedUp fed given used piece old new
FlowAnswer fed given piece used old new (Ok (flows.Page format)) = EndsHead format fed given (take used piece) old new
FlowAnswer fed given piece used old new (Ok (flows.Body from to)) = GivesBody from to fed given used piece old new
FlowAnswer fed given piece used old new (Ok flows.Whole) = IsAllGiven fed given (take used piece) old new
FlowAnswer fed given piece used old new (Err fault) = IsRefusal new.most (fed ++ piece) fault × (fault ≢ faults.Memory)

-- what the end gives: nothing is missing, or it came too soon
abbrev pub StreamEnd : ℕ → List ℕ → Option Format → List ℕ → Result ⊤ ReplyFault → Type 0
StreamEnd most fed None given (Ok u) = ⊥
StreamEnd most fed (Some format) given (Ok u) = HasVerdict most fed (whole format given) ⊎ IsJudged most fed (goes_on format given)
StreamEnd most fed told given (Err faults.Truncated) = IsJudged most fed waits
StreamEnd most fed told given (Err fault) = ⊥

-- ---- steps

-- the bytes of a piece from a place up to another are given; where there are none, it is used up
abbrev pub step_to : ℕ → ℕ → Step
step_to from to = if from == to then record { flow = flows.More; taken = to } else record { flow = flows.Body from to; taken = to }

-- what a step over chunks comes to, by what is certain of the body behind it
abbrev pub step_behind : Result Progress ReplyFault → ℕ → ℕ → Result Step ReplyFault
step_behind (Ok progresses.Whole) from to = Ok (record { flow = flows.Whole; taken = to })
step_behind (Ok progresses.More) from to = Ok (step_to from to)
step_behind (Err fault) from to = Err fault

-- behind a head of so many bytes that is found in what is kept the body begins, or the head is refused
abbrev pub BeginsBody : Streaming → Streaming → ResponseHead → ℕ → Result Format ReplyFault → Type 0
BeginsBody old new h len (Ok format) =
    (head_cause old.most h ≡ None) × (head_format h ≡ Some format)
    × (new ≡ record old { part = first_part (framing_of h); format = format; kept = []; body = 0; got = len })
BeginsBody old new h len (Err fault) = IsHeadFault old.most h fault

-- what a step answers to a piece
abbrev pub StepFlow : List ℕ → List ℕ → List ℕ → Streaming → Streaming → Result Step ReplyFault → Type 0
StepFlow fed given piece old new (Ok step) = FlowAnswer fed given piece step.taken old new (Ok step.flow)
StepFlow fed given piece old new (Err fault) = FlowAnswer fed given piece 0 old new (Err fault)

-- it takes no more bytes than there are
abbrev pub IsStepWithin : List ℕ → Result Step ReplyFault → Type 0
IsStepWithin piece (Ok step) = step.taken ≤ length piece
IsStepWithin piece (Err fault) = ⊤

-- a step over a piece
pub record StepsOver (old new : Streaming) (piece : List ℕ) (result : Result Step ReplyFault) : Type 0 where
  pub same : new.most ≡ old.most
  pub working : new.stopped ≡ old.stopped
  pub within : IsStepWithin piece result
  pub answer : (fed given : List ℕ) → Flows fed given old → StepFlow fed given piece old new result

-- ---- a reader that keeps what a stream gives

-- the reader over a stream, that keeps these bytes of the body
abbrev pub reader_of : Streaming → List ℕ → Option ReplyFault → Reader
reader_of s body stopped = record (reader_with s body) { stopped = stopped }

-- a stream that refused nothing gave these bytes, of some reply
abbrev pub HasFlowed : Streaming → List ℕ → Type 0
HasFlowed s given = (fed : List ℕ) × Flows fed given s

-- what a reader that keeps these bytes of the body comes to, once these bytes were fed
abbrev pub GatherAnswer : List ℕ → List ℕ → Streaming → Result Progress ReplyFault → Type 0
GatherAnswer fed body new (Ok progress) = Flows fed body new × (known : Judged) × IsJudged new.most fed known × (progress ≡ progress_of known)
GatherAnswer fed body new (Err fault) = IsRefusal new.most fed fault

-- how many heads are still to be told
abbrev pub heads_to_tell : Option Format → ℕ
heads_to_tell None = 1
heads_to_tell (Some format) = 0

-- some bytes of a piece were fed, or a head was told
pub record GathersFront (fed piece body : List ℕ) (taken : ℕ) (old new : Streaming) : Type 0 where
  pub within : taken ≤ length piece
  pub some : heads_to_tell (told_of_head new) < 2 * taken + heads_to_tell (told_of_head old)
  pub flows_on : Flows (fed ++ take taken piece) body new

-- what feeding a front of a piece comes to
abbrev pub FrontAnswer : List ℕ → List ℕ → List ℕ → Streaming → Streaming → Result Turn ReplyFault → Type 0
FrontAnswer fed piece body old new (Ok (turns.On taken)) = GathersFront fed piece body taken old new
FrontAnswer fed piece body old new (Ok (turns.Over progress)) = GatherAnswer (fed ++ piece) body new (Ok progress)
FrontAnswer fed piece body old new (Err fault) = IsRefusal new.most (fed ++ piece) fault
