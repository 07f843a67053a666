-- The reply of a scrape whose page is read as it comes, and which bytes it was fed.
-- The bridge's own.
use Rattle.std.specs.Prelude.{◌≡◌, ℕ, ◌+◌, ◌-◌, ◌*◌, ◌^◌, ◌<◌, ◌≤◌, List, ◌++◌, length, take, Option, Some, None, Result, Ok, Err, IsSomeAnd, ⊤}
use Rattle.page_model.specs.declared.format.Format.{Format}
use Rattle.page_model.specs.declared.format.Treatment.TheVariants.{Scraped}
use Rattle.page_model.specs.declared.fault.PageFault.{PageFault}
use Rattle.page_model.specs.declared.event.Outcome.{Outcome}
use Rattle.page_model.specs.declared.event.Outcome.TheVariants as outcomes
use Rattle.page_feeding.specs.PageFeeding.{Refuses}
use Rattle.page_reader.specs.AnyReading.{fed_of, StandsIn}
use Rattle.line_scan.specs.LineReading.{setting_of}
use Rattle.http_talk.specs.declared.fault.Progress.{Progress}
use Rattle.http_talk.specs.declared.fault.ReplyFault.{ReplyFault}
use Rattle.http_talk.specs.Replies.{Judged, IsJudged, cause_of, most_body_limit}
use Rattle.http_talk.specs.ReplyReading.{IsRefusal, progress_of}
use Rattle.http_talk.specs.Streams.{Flows, told_of_head, heads_to_tell}
use Rattle.scrape_client.specs.Scraping.{IsWireFault}
use Rattle.scrape_client.specs.declared.page_so_far.PageSoFar.{PageSoFar}
use Rattle.scrape_client.specs.declared.page_so_far.PageSoFar.TheVariants.{Unbegun, Reading, Stopped}
use Rattle.scrape_client.specs.declared.page_reply.PageReply.{PageReply}
use Rattle.scrape_client.specs.declared.turn.Turn.{Turn}
use Rattle.scrape_client.specs.declared.turn.Turn.TheVariants as turns

-- ---- the page

-- these bytes of a page in this format were read: no fault was found, or one that stands however it goes on
abbrev pub PageHasRead : ℕ → Format → List ℕ → PageSoFar → Type 0
PageHasRead limit format bytes Unbegun = ⊥
PageHasRead limit format bytes (Reading reader) = StandsIn format Scraped limit bytes reader
PageHasRead limit format bytes (Stopped fault) = Refuses (setting_of format Scraped limit) bytes fault

-- the page is begun: in some format, the bytes of it that came were read
abbrev pub IsPageBegun : PageSoFar → Type 0
IsPageBegun page = (limit : ℕ) × (format : Format) × (bytes : List ℕ) × PageHasRead limit format bytes page

-- the page has room for so many bytes more
abbrev pub PageHasRoom : ℕ → PageSoFar → Type 0
PageHasRoom count (Reading reader) = (fed_of reader).lines.fed + count < 2 ^ 32 - 1
PageHasRoom count page = ⊤

-- the next bytes were fed: they were read, or a fault was found
abbrev pub FeedsOn : ℕ → Format → List ℕ → List ℕ → PageSoFar → Result ⊤ PageFault → Type 0
FeedsOn limit format bytes piece new (Ok u) = PageHasRead limit format (bytes ++ piece) new
FeedsOn limit format bytes piece new (Err fault) = Refuses (setting_of format Scraped limit) (bytes ++ piece) fault

-- what was told of the head, and the bytes of the page that were given, were read
abbrev pub IsReadAs : ℕ → Option Format → List ℕ → PageSoFar → Type 0
IsReadAs limit None given page = page ≡ Unbegun
IsReadAs limit (Some format) given page = PageHasRead limit format given page

-- ---- the reply

-- the most bytes of its body
abbrev pub most_of : PageReply → ℕ
most_of r = r.stream.most

-- a reply was fed these bytes, none of which is refused, and its page was read as far as it came
pub record ReadsPage (limit : ℕ) (fed : List ℕ) (r : PageReply) : Type 0 where
  pub limit_is : r.limit ≡ limit
  pub short : r.stream.most ≤ most_body_limit
  pub given : List ℕ
  pub flows : Flows fed given r.stream
  pub page : IsReadAs limit (told_of_head r.stream) given r.page

-- it was fed some bytes
abbrev pub HasRead : PageReply → Type 0
HasRead r = (fed : List ℕ) × ReadsPage r.limit fed r

-- what a reply with this fault comes to
abbrev pub IsFaultOutcome : ReplyFault → Outcome → Type 0
IsFaultOutcome fault outcome = IsSomeAnd (cause_of fault) (λ cause. outcome ≡ outcomes.Failed cause)

-- it is no fault of the wire
abbrev pub IsPeerOutcome : Outcome → Type 0
IsPeerOutcome outcome = IsWireFault outcome → ⊥

-- a piece was read, and this is known
pub record IsPieceRead (limit : ℕ) (fed : List ℕ) (new : PageReply) (progress : Progress) : Type 0 where
  pub reads : ReadsPage limit fed new
  pub known : Judged
  pub judged_so : IsJudged (most_of new) fed known
  pub progress_is : progress ≡ progress_of known

-- what a piece gives: it is read, or the reply is refused
abbrev pub ReadAnswer : ℕ → List ℕ → PageReply → Result Progress ReplyFault → Type 0
ReadAnswer limit fed new (Ok progress) = IsPieceRead limit fed new progress
ReadAnswer limit fed new (Err fault) = IsRefusal (most_of new) fed fault

-- some bytes of a piece were fed, or a head was told
pub record ReadsFront (limit : ℕ) (fed piece : List ℕ) (taken : ℕ) (old new : PageReply) : Type 0 where
  pub within : taken ≤ length piece
  pub some : heads_to_tell (told_of_head new.stream) < 2 * taken + heads_to_tell (told_of_head old.stream)
  pub reads : ReadsPage limit (fed ++ take taken piece) new

-- what one step over a piece comes to
abbrev pub ReadStepAnswer : ℕ → List ℕ → List ℕ → PageReply → PageReply → Result Turn ReplyFault → Type 0
ReadStepAnswer limit fed piece old new (Ok (turns.On taken)) = ReadsFront limit fed piece taken old new
ReadStepAnswer limit fed piece old new (Ok (turns.Over progress)) = ReadAnswer limit (fed ++ piece) new (Ok progress)
ReadStepAnswer limit fed piece old new (Err fault) = IsRefusal (most_of new) (fed ++ piece) fault
