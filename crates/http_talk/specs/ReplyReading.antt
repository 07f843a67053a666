-- Readers of a reply, and which bytes they were fed.
-- RFC 9112, sections 4 to 8; the limits are the bridge's own.
use Rattle.std.specs.Prelude.{◌≡◌, ◌⊎◌, ℕ, ◌<◌, ◌≤◌, false, List, length, Option, Some, None, Result, Ok, Err, ⊤}
use Rattle.httparse.specs.Grammar.{ResponseHead, print_response}
use Rattle.page_model.specs.declared.format.Format.{Format}
use Rattle.http_talk.specs.declared.part.Part.{Part}
use Rattle.http_talk.specs.declared.part.Part.TheVariants as parts
use Rattle.http_talk.specs.declared.fault.Progress.{Progress}
use Rattle.http_talk.specs.declared.fault.Progress.TheVariants as progresses
use Rattle.http_talk.specs.declared.fault.Body.{Body}
use Rattle.http_talk.specs.declared.fault.ReplyFault.{ReplyFault}
use Rattle.http_talk.specs.declared.fault.ReplyFault.TheVariants as faults
use Rattle.page_model.specs.declared.event.Cause.{Cause}
use Rattle.http_talk.specs.Heads.{unfinished, found, HeadIs, head_cause, head_format, framing_of, Framing, in_chunks, to_the_end, of_length}
use Rattle.http_talk.specs.Chunks.{no_chunks, with_bytes}
use Rattle.http_talk.specs.Chunks as chunks
use Rattle.http_talk.specs.Replies.{Judged, waits, goes_on, decided, refused, whole, IsJudged, HasVerdict, cause_of}

-- a reader: how many bytes a body may have, what it is reading, the format of the body, what it keeps of the head or of the body, how many bytes came in all, and what stopped it
pub record Reader : Type 0 where
  pub most : ℕ
  pub part : Part
  pub format : Format
  pub kept : List ℕ
  pub got : ℕ
  pub stopped : Option ReplyFault

-- the bytes hold a head that is taken, in this format and framing
pub record HasBody (most : ℕ) (got : List ℕ) (format : Format) (framing : Framing) : Type 0 where
  pub head : ResponseHead
  pub rest : List ℕ
  pub head_is : HeadIs got (found head rest)
  pub taken : head_cause most head ≡ None
  pub format_is : head_format head ≡ Some format
  pub framing_is : framing_of head ≡ framing

-- what a reader keeps once it was fed these bytes, by what it is reading
abbrev pub HasKept : Part → ℕ → List ℕ → Format → List ℕ → ℕ → Type 0
HasKept parts.Head most fed format kept got = (kept ≡ fed) × HeadIs fed unfinished
HasKept (parts.Sized n) most fed format kept got = (b : HasBody most fed format (of_length n)) × (kept ≡ b.rest) × (length kept < n)
HasKept parts.Open most fed format kept got = (b : HasBody most fed format to_the_end) × (kept ≡ b.rest) × (length kept ≤ most)
HasKept (parts.Chunked place) most fed format kept got =
    (b : HasBody most fed format in_chunks)
    × (record { place = place; held = kept; got = got } ≡ with_bytes most (no_chunks (length (print_response b.head))) b.rest)
    × (chunks.is_certain most (record { place = place; held = kept; got = got }) ≡ false)
HasKept parts.Whole most fed format kept got = HasVerdict most fed (whole format kept)

-- a reader that keeps these bytes of a body, or of a head that is not there yet
abbrev pub kept_by : Part → List ℕ → List ℕ → List ℕ
kept_by parts.Head head body = head
kept_by part head body = body

-- a reader was fed these bytes and refused nothing
pub record Stands (fed : List ℕ) (r : Reader) : Type 0 where
  pub working : r.stopped ≡ None
  pub keeps : HasKept r.part r.most fed r.format r.kept r.got

-- it has refused, or wanted memory, and answers this
abbrev pub HasStopped : ReplyFault → Reader → Type 0
HasStopped fault r = r.stopped ≡ Some fault

-- a reply is whole where there is a verdict on it that is no refusal
abbrev pub progress_of : Judged → Progress
progress_of (decided v) = progresses.Whole
progress_of _ = progresses.More

-- a refusal is the verdict on these bytes; want of memory is free; an early end is told at the end alone
abbrev pub IsRefusal : ℕ → List ℕ → ReplyFault → Type 0
IsRefusal most fed faults.Memory = ⊤
IsRefusal most fed faults.Truncated = ⊥
IsRefusal most fed fault = (cause : Cause) × (cause_of fault ≡ Some cause) × HasVerdict most fed (refused cause)

-- a piece was taken: the reader stands for what it was fed, and tells whether the reply is whole
pub record IsPieceTaken (fed : List ℕ) (new : Reader) (progress : Progress) : Type 0 where
  pub stands : Stands fed new
  pub known : Judged
  pub judged_so : IsJudged new.most fed known
  pub progress_is : progress ≡ progress_of known

-- what a piece gives: it is taken, or a refusal
abbrev pub FeedAnswer : List ℕ → Reader → Result Progress ReplyFault → Type 0
FeedAnswer fed new (Ok progress) = IsPieceTaken fed new progress
FeedAnswer fed new (Err fault) = IsRefusal new.most fed fault

-- what the end gives: the body of a reply that is whole or goes to the end, or that it came too soon; want of memory is free
abbrev pub FinishAnswer : ℕ → List ℕ → Result Body ReplyFault → Type 0
FinishAnswer most fed (Ok body) = HasVerdict most fed (whole body.format body.bytes) ⊎ IsJudged most fed (goes_on body.format body.bytes)
FinishAnswer most fed (Err faults.Truncated) = IsJudged most fed waits
FinishAnswer most fed (Err faults.Memory) = ⊤
FinishAnswer most fed (Err fault) = ⊥
