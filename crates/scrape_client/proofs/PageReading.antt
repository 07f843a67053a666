-- A page that is read while its reply comes.
use Rattle.std.proofs.Common.{◌≡◌, ℕ, ◌+◌, ◌-◌, ◌*◌, ◌^◌, ◌≤◌, ◌<◌, List, [], ◌++◌, length, take, drop, false, Option, Some, None, Result, Ok, Err, refl, sym, ap, subst, ◌∙◌, inl, inr, arith, append_assoc, append-nil}
use Rattle.std.specs.Prelude.{⊤, IfOk, slice_range}
use Rattle.std.proofs.lemmas.List.{length-append, length-take, length-drop, take_all, take-append-drop}
use Rattle.std.proofs.Math.Seq.{take-add}
use Rattle.bridge_ports.specs.declared.talk.End.TheVariants as ends
use Rattle.page_model.specs.declared.format.Format.{Format}
use Rattle.page_model.specs.declared.format.Treatment.TheVariants.{Scraped}
use Rattle.page_model.specs.declared.fault.PageFault.{PageFault}
use Rattle.page_model.specs.declared.fault.PageFault.TheVariants as page_faults
use Rattle.page_model.specs.declared.event.Outcome.{Outcome}
use Rattle.page_model.specs.Written.{Setting}
use Rattle.page_model.specs.Pages.{FirstFault}
use Rattle.page_feeding.specs.PageFeeding.{Refuses, Answers}
use Rattle.page_reader.specs.declared.any_reader.AnyReader.{AnyReader}
use Rattle.page_reader.specs.AnyReading.{PieceAnswerIn}
use Rattle.http_talk.specs.declared.fault.Progress.{Progress}
use Rattle.http_talk.specs.declared.fault.Progress.TheVariants as progresses
use Rattle.http_talk.specs.declared.fault.ReplyFault.{ReplyFault}
use Rattle.http_talk.specs.declared.fault.ReplyFault.TheVariants as faults
use Rattle.http_talk.specs.Replies.{Judged, waits, goes_on, decided, whole, IsJudged, is_decided, IsPageOutcome, IsOutcomeOf}
use Rattle.http_talk.specs.ReplyReading.{IsRefusal, progress_of}
use Rattle.http_talk.specs.Streams.{Streaming, Flows, HasGiven, told_of_head, heads_to_tell, IsUsedUp, EndsHead, GivesBody, IsAllGiven, StreamEnd}
use Rattle.http_talk.proofs.Laws.{verdict_stays, known_once, flows_short, refusal_stays, whole_on}
use Rattle.scrape_client.specs.declared.page_so_far.PageSoFar.{PageSoFar}
use Rattle.scrape_client.specs.declared.page_so_far.PageSoFar.TheVariants as pages
use Rattle.scrape_client.specs.declared.page_reply.PageReply.{PageReply}
use Rattle.scrape_client.specs.PageReplies.{PageHasRead, IsPageBegun, IsReadAs, PageHasRoom, FeedsOn, ReadsPage, HasRead, IsPieceRead, ReadAnswer, ReadsFront, IsFaultOutcome, IsPeerOutcome, most_of}
use Rattle.scrape_client.proofs.Exchanging.{page_is_peer}

-- ---- the page

-- a fault that stands however the page goes on stands behind more bytes
pub refuses_on : (fault : PageFault) (st : Setting) (bytes piece : List ℕ) → Refuses st bytes fault → Refuses st (bytes ++ piece) fault
refuses_on (page_faults.Refused line rule) st bytes piece x = λ more. subst (λ bs. FirstFault st bs (line, rule)) (sym (append_assoc bytes piece more)) (x (piece ++ more))
refuses_on page_faults.Memory st bytes piece x = tt

-- what is refused however it goes on is refused as it is
pub refused_now : (fault : PageFault) (st : Setting) (bytes : List ℕ) → Refuses st bytes fault → Answers st bytes (Err fault)
refused_now (page_faults.Refused line rule) st bytes x = subst (λ (b : List ℕ). FirstFault st b (line, rule)) (append-nil bytes) (x [])
refused_now page_faults.Memory st bytes x = tt

-- ---- one step

reads_by : (limit : ℕ) (fed fed2 given : List ℕ) (old new : PageReply) → ReadsPage limit fed old → new.limit ≡ old.limit → most_of new ≡ most_of old → Flows fed2 given new.stream → IsReadAs limit (told_of_head new.stream) given new.page → ReadsPage limit fed2 new
reads_by limit fed fed2 given old new x same most f page = record {
  limit_is = same ∙ x.limit_is;
  short = omega (arith, most, x.short);
  given = given;
  flows = f;
  page = page;
}

as_before : (limit : ℕ) (given : List ℕ) (told now : Option Format) (page after : PageSoFar) → now ≡ told → after ≡ page → IsReadAs limit told given page → IsReadAs limit now given after
as_before limit given told now page after e f x = subst (λ p. IsReadAs limit now given p) (sym f) (subst (λ t. IsReadAs limit t given page) (sym e) x)

more_progress : (known : Judged) → is_decided known ≡ false → progresses.More ≡ progress_of known
more_progress (decided v) e = absurd (cc e)
more_progress waits e = refl
more_progress (goes_on format given) e = refl

pub turn_used_up : (limit : ℕ) (fed piece : List ℕ) (used : ℕ) (old new : PageReply) (x : ReadsPage limit fed old) → new.limit ≡ old.limit → most_of new ≡ most_of old → new.page ≡ old.page
    → IsUsedUp fed x.given used piece old.stream new.stream → IsPieceRead limit (fed ++ piece) new progresses.More
turn_used_up limit fed piece used old new x same most kept a = record {
  reads = reads_by limit fed (fed ++ piece) x.given old new x same most a.flows_on (as_before limit x.given (told_of_head old.stream) (told_of_head new.stream) old.page new.page a.told kept x.page);
  known = a.known;
  judged_so = a.judged_so;
  progress_is = more_progress a.known a.undecided;
}

pub turn_whole : (limit : ℕ) (fed piece : List ℕ) (used : ℕ) (old new : PageReply) (x : ReadsPage limit fed old) → new.limit ≡ old.limit → most_of new ≡ most_of old → new.page ≡ old.page
    → IsAllGiven fed x.given (take used piece) old.stream new.stream → IsPieceRead limit (fed ++ piece) new progresses.Whole
turn_whole limit fed piece used old new x same most kept a =
    let bytes : (fed ++ take used piece) ++ drop used piece ≡ fed ++ piece = append_assoc fed (take used piece) (drop used piece) ∙ ap (λ xs. fed ++ xs) (take-append-drop used piece) in
    let on = whole_on new.stream (fed ++ take used piece) x.given (drop used piece) a.format a.flows_on a.verdict in
    let v = verdict_stays (most_of new) (fed ++ take used piece) (drop used piece) (whole a.format x.given) a.verdict in
    record {
      reads = reads_by limit fed (fed ++ piece) x.given old new x same most (subst (λ bs. Flows bs x.given new.stream) bytes on) (as_before limit x.given (told_of_head old.stream) (told_of_head new.stream) old.page new.page a.told kept x.page);
      known = decided (whole a.format x.given);
      judged_so = subst (λ bs. IsJudged (most_of new) bs (decided (whole a.format x.given))) bytes v;
      progress_is = refl;
    }

fewer : (format : Format) (taken : ℕ) (a b : Option Format) → a ≡ None → b ≡ Some format → heads_to_tell b < 2 * taken + heads_to_tell a
fewer format taken a b none told = rw (none, told) (omega arith)

pub turn_head : (limit : ℕ) (format : Format) (fed piece : List ℕ) (used : ℕ) (old new : PageReply) (x : ReadsPage limit fed old) → new.limit ≡ old.limit → most_of new ≡ most_of old → used ≤ length piece
    → PageHasRead old.limit format [] new.page → EndsHead format fed x.given (take used piece) old.stream new.stream → ReadsFront limit fed piece used old new
turn_head limit format fed piece used old new x same most within page a = record {
  within = within;
  some = fewer format used (told_of_head old.stream) (told_of_head new.stream) a.first a.told;
  reads = reads_by limit fed (fed ++ take used piece) [] old new x same most a.flows_on
      (subst (λ t. IsReadAs limit t [] new.page) (sym a.told) (subst (λ l. PageHasRead l format [] new.page) x.limit_is page));
}

slice_long : (piece : List ℕ) (from to : ℕ) → to ≤ length piece → length (slice_range piece from to) ≡ to - from
slice_long piece from to within = omega (arith, length-take (to - from) (drop from piece), length-drop from piece, within)

some_told : (told : Option Format) (limit most from to : ℕ) (fed given piece : List ℕ) (page after : PageSoFar) → from < to → to ≤ length piece → HasGiven most fed told (given ++ slice_range piece from to) → IsReadAs limit told given page
    → ((format : Format) → PageHasRead limit format given page → PageHasRead limit format (given ++ slice_range piece from to) after) → IsReadAs limit told (given ++ slice_range piece from to) after
some_told None limit most from to fed given piece page after some within g x takes =
    absurd (omega (arith, ap (length {A = ℕ}) g.0, length-append given (slice_range piece from to), slice_long piece from to within, some))
some_told (Some format) limit most from to fed given piece page after some within g x takes = takes format x

pub turn_body : (limit : ℕ) (fed piece : List ℕ) (from to used : ℕ) (old new : PageReply) (x : ReadsPage limit fed old) → new.limit ≡ old.limit → most_of new ≡ most_of old → used ≤ length piece
    → ((format : Format) → PageHasRead limit format x.given old.page → PageHasRead limit format (x.given ++ slice_range piece from to) new.page)
    → GivesBody from to fed x.given used piece old.stream new.stream → ReadsFront limit fed piece used old new
turn_body limit fed piece from to used old new x same most within takes a =
    let inside : to ≤ length piece = omega (arith, within, a.last) in
    record {
      within = within;
      some = omega (arith, a.some, a.last, ap heads_to_tell a.told);
      reads = reads_by limit fed (fed ++ take used piece) (x.given ++ slice_range piece from to) old new x same most a.flows_on
          (some_told (told_of_head new.stream) limit (most_of new) from to (fed ++ take used piece) x.given piece old.page new.page a.some inside a.flows_on.gave
          (subst (λ t. IsReadAs limit t x.given old.page) (sym a.told) x.page) takes);
    }

room_in : (page : PageSoFar) (told : Option Format) (limit count : ℕ) (given : List ℕ) → IsReadAs limit told given page → length given + count < 2 ^ 32 - 1 → PageHasRoom count page
room_in pages.Unbegun told limit count given x few = tt
room_in (pages.Stopped fault) told limit count given x few = tt
room_in (pages.Reading reader) None limit count given x few = absurd (cc x)
room_in (pages.Reading reader) (Some format) limit count given x few = omega (arith, x.stands.lines_stand.count, few)

-- the page has room for what is given
pub body_room : (limit : ℕ) (fed piece : List ℕ) (from to used : ℕ) (old : PageReply) (new : Streaming) (x : ReadsPage limit fed old) → new.most ≡ most_of old → used ≤ length piece → GivesBody from to fed x.given used piece old.stream new
    → PageHasRoom (length (slice_range piece from to)) old.page
body_room limit fed piece from to used old new x most within a =
    let short = flows_short (fed ++ take used piece) (x.given ++ slice_range piece from to) new a.flows_on in
    room_in old.page (told_of_head old.stream) limit (length (slice_range piece from to)) x.given x.page (omega (arith, short, length-append x.given (slice_range piece from to), most, x.short))

-- ---- a block, step by step

-- some bytes of a block were read
pub record IsReadTo (start : PageReply) (block : List ℕ) (at : ℕ) (now : PageReply) : Type 0 where
  pub within : at ≤ length block
  pub same : most_of now ≡ most_of start
  pub reads : (limit : ℕ) (fed : List ℕ) → ReadsPage limit fed start → ReadsPage limit (fed ++ take at block) now

pub nothing_read : (start : PageReply) (block : List ℕ) → IsReadTo start block 0 start
nothing_read start block = record {
  within = omega arith;
  same = refl;
  reads = λ limit fed x. subst (λ xs. ReadsPage limit xs start) (sym (append-nil fed)) x;
}

pub still_read : (start : PageReply) (block : List ℕ) (at : ℕ) (now : PageReply) → IsReadTo start block at now → HasRead start → HasRead now
still_read start block at now g some =
    let x = g.reads start.limit some.0 some.1 in
    (some.0 ++ take at block, subst (λ l. ReadsPage l (some.0 ++ take at block) now) (sym x.limit_is) x)

rest_is : (block : List ℕ) (at : ℕ) → take (length block - at) (drop at block) ≡ drop at block
rest_is block at = take_all (length block - at) (drop at block) (omega (arith, length-drop at block))

module _ (start : PageReply) (block rest : List ℕ) (at : ℕ) (now new : PageReply) (g : IsReadTo start block at now) (is : rest ≡ take (length block - at) (drop at block)) where
  pub reads_on : (taken : ℕ) → most_of new ≡ most_of now → ((limit : ℕ) (fed : List ℕ) → ReadsPage limit fed now → ReadsFront limit fed rest taken now new) → HasRead start
      → IsReadTo start block (at + taken) new × (2 * (length block - (at + taken)) + heads_to_tell (told_of_head new.stream) < 2 * (length block - at) + heads_to_tell (told_of_head now.stream))
  reads_on taken same x some =
      let one = x start.limit (some.0 ++ take at block) (g.reads start.limit some.0 some.1) in
      let long : length rest ≡ length block - at = omega (arith, ap (length {A = ℕ}) (is ∙ rest_is block at), length-drop at block) in
      let step : IsReadTo start block (at + taken) new = record {
        within = omega (arith, one.within, long, g.within);
        same = same ∙ g.same;
        reads = λ limit fed f.
            let bytes : (fed ++ take at block) ++ take taken rest ≡ fed ++ take (at + taken) block =
            append_assoc fed (take at block) (take taken rest) ∙ ap (λ xs. fed ++ (take at block ++ take taken xs)) (is ∙ rest_is block at) ∙ ap (λ xs. fed ++ xs) (sym (take-add at taken block)) in
            subst (λ bs. ReadsPage limit bs new) bytes (x limit (fed ++ take at block) (g.reads limit fed f)).reads;
      } in
      (step, omega (arith, one.some, one.within, long, g.within))

  pub reads_last : (result : Result Progress ReplyFault) → ((limit : ℕ) (fed : List ℕ) → ReadsPage limit fed now → ReadAnswer limit (fed ++ rest) new result) → (limit : ℕ) (fed : List ℕ) → ReadsPage limit fed start → ReadAnswer limit (fed ++ block) new result
  reads_last result x limit fed f =
      let bytes : (fed ++ take at block) ++ rest ≡ fed ++ block = append_assoc fed (take at block) rest ∙ ap (λ xs. fed ++ (take at block ++ xs)) (is ∙ rest_is block at) ∙ ap (λ xs. fed ++ xs) (take-append-drop at block) in
      subst (λ bs. ReadAnswer limit bs new result) bytes (x limit (fed ++ take at block) (g.reads limit fed f))

-- ---- a piece, block by block

module _ (start : PageReply) (piece : List ℕ) (at n : ℕ) (now new : PageReply) (g : IsReadTo start piece at now) (inside : at + n ≤ length piece) where
  abbrev block_at : List ℕ
  block_at = slice_range piece at (at + n)

  block_is : (fed : List ℕ) → (fed ++ take at piece) ++ block_at ≡ fed ++ take (at + n) piece
  block_is fed =
      append_assoc fed (take at piece) block_at ∙ ap (λ m. fed ++ (take at piece ++ take m (drop at piece))) (let e : at + n - at ≡ n = omega arith in e) ∙ ap (λ xs. fed ++ xs) (sym (take-add at n piece))

  pub reads_block : (progress : Progress) → most_of new ≡ most_of now → ((limit : ℕ) (fed : List ℕ) → ReadsPage limit fed now → ReadAnswer limit (fed ++ block_at) new (Ok progress)) → IsReadTo start piece (at + n) new
  reads_block progress same x = record {
    within = inside;
    same = same ∙ g.same;
    reads = λ limit fed f. subst (λ bs. ReadsPage limit bs new) (block_is fed) (x limit (fed ++ take at piece) (g.reads limit fed f)).reads;
  }

  pub block_refused : (fault : ReplyFault) → ((limit : ℕ) (fed : List ℕ) → ReadsPage limit fed now → IsRefusal (most_of new) (fed ++ block_at) fault) → (limit : ℕ) (fed : List ℕ) → ReadsPage limit fed start → IsRefusal (most_of new) (fed ++ piece) fault
  block_refused fault x limit fed f =
      let bytes : ((fed ++ take at piece) ++ block_at) ++ drop (at + n) piece ≡ fed ++ piece =
      ap (λ bs. bs ++ drop (at + n) piece) (block_is fed) ∙ append_assoc fed (take (at + n) piece) (drop (at + n) piece) ∙ ap (λ xs. fed ++ xs) (take-append-drop (at + n) piece) in
      subst (λ bs. IsRefusal (most_of new) bs fault) bytes (refusal_stays fault (most_of new) ((fed ++ take at piece) ++ block_at) (drop (at + n) piece) (x limit (fed ++ take at piece) (g.reads limit fed f)))

-- ---- the end

page_begun : (told : Option Format) (limit most : ℕ) (fed given : List ℕ) (page : PageSoFar) (u : ⊤) → StreamEnd most fed told given (Ok u) → IsReadAs limit told given page → IsPageBegun page
page_begun None limit most fed given page u end x = absurd end
page_begun (Some format) limit most fed given page u end x = (limit, format, given, x)

-- a reply that ended well has the page begun
pub finish_begun : (r : PageReply) (u : ⊤) (some : HasRead r) → StreamEnd (most_of r) some.0 (told_of_head r.stream) some.1.given (Ok u) → IsPageBegun r.page
finish_begun r u some end = page_begun (told_of_head r.stream) r.limit (most_of r) some.0 some.1.given r.page u end some.1.page

page_ends : {E : Type 0} (told : Option Format) (limit most : ℕ) (fed given : List ℕ) (page : PageSoFar) (u : ⊤) (result : Result Outcome E) → StreamEnd most fed told given (Ok u) → IsReadAs limit told given page
    → ((format : Format) → PageHasRead limit format given page → IfOk result (IsPageOutcome limit format given)) → (known : Judged) → IsJudged most fed known → IfOk result (IsOutcomeOf ends.Ended limit known)
page_ends None limit most fed given page u result end x closes known judged = absurd end
page_ends (Some format) limit most fed given page u result (inl v) x closes known judged =
    subst (λ k. IfOk result (IsOutcomeOf ends.Ended limit k)) (known_once most fed (decided (whole format given)) known v judged) (closes format x)
page_ends (Some format) limit most fed given page u result (inr v) x closes known judged =
    subst (λ k. IfOk result (IsOutcomeOf ends.Ended limit k)) (known_once most fed (goes_on format given) known v judged) (closes format x)

peer_of_page : {E : Type 0} (limit : ℕ) (format : Format) (given : List ℕ) (result : Result Outcome E) → IfOk result (IsPageOutcome limit format given) → IfOk result IsPeerOutcome
peer_of_page limit format given (Ok outcome) x = page_is_peer limit format given outcome x
peer_of_page limit format given (Err e) x = x

page_peer : {E : Type 0} (told : Option Format) (limit most : ℕ) (fed given : List ℕ) (page : PageSoFar) (u : ⊤) (result : Result Outcome E) → StreamEnd most fed told given (Ok u) → IsReadAs limit told given page
    → ((format : Format) → PageHasRead limit format given page → IfOk result (IsPageOutcome limit format given)) → IfOk result IsPeerOutcome
page_peer None limit most fed given page u result end x closes = absurd end
page_peer (Some format) limit most fed given page u result end x closes = peer_of_page limit format given result (closes format x)

pub finish_page : {E : Type 0} (limit : ℕ) (fed : List ℕ) (r : PageReply) (u : ⊤) (result : Result Outcome E) (x : ReadsPage limit fed r) → StreamEnd (most_of r) fed (told_of_head r.stream) x.given (Ok u)
    → ((limit : ℕ) (format : Format) (bytes : List ℕ) → PageHasRead limit format bytes r.page → IfOk result (IsPageOutcome limit format bytes)) → (known : Judged) → IsJudged (most_of r) fed known → IfOk result (IsOutcomeOf ends.Ended limit known)
finish_page limit fed r u result x end closes known judged =
    page_ends (told_of_head r.stream) limit (most_of r) fed x.given r.page u result end x.page (λ format y. closes limit format x.given y) known judged

pub finish_peer : {E : Type 0} (limit : ℕ) (fed : List ℕ) (r : PageReply) (u : ⊤) (result : Result Outcome E) (x : ReadsPage limit fed r) → StreamEnd (most_of r) fed (told_of_head r.stream) x.given (Ok u)
    → ((limit : ℕ) (format : Format) (bytes : List ℕ) → PageHasRead limit format bytes r.page → IfOk result (IsPageOutcome limit format bytes)) → IfOk result IsPeerOutcome
finish_peer limit fed r u result x end closes =
    page_peer (told_of_head r.stream) limit (most_of r) fed x.given r.page u result end x.page (λ format y. closes limit format x.given y)

truncated_outcome : {E : Type 0} (limit : ℕ) (result : Result Outcome E) → IfOk result (IsFaultOutcome faults.Truncated) → IfOk result (IsOutcomeOf ends.Ended limit waits)
truncated_outcome limit (Ok outcome) x = x
truncated_outcome limit (Err e) x = x

pub finish_early : {E : Type 0} (fault : ReplyFault) (limit most : ℕ) (fed given : List ℕ) (told : Option Format) (result : Result Outcome E) → StreamEnd most fed told given (Err fault) → IfOk result (IsFaultOutcome fault)
    → (known : Judged) → IsJudged most fed known → IfOk result (IsOutcomeOf ends.Ended limit known)
finish_early faults.Truncated limit most fed given told result x is known judged =
    subst (λ k. IfOk result (IsOutcomeOf ends.Ended limit k)) (known_once most fed waits known x judged) (truncated_outcome limit result is)
finish_early faults.Head limit most fed given told result x is known judged = absurd x
finish_early (faults.Status code) limit most fed given told result x is known judged = absurd x
finish_early faults.Encoding limit most fed given told result x is known judged = absurd x
finish_early faults.MediaType limit most fed given told result x is known judged = absurd x
finish_early faults.TooLong limit most fed given told result x is known judged = absurd x
finish_early faults.Chunk limit most fed given told result x is known judged = absurd x
finish_early faults.Memory limit most fed given told result x is known judged = absurd x

-- what the reader of a page answers, the page answers
pub feeds_as : (result : Result ⊤ PageFault) (limit : ℕ) (format : Format) (bytes piece : List ℕ) (new : AnyReader) → PieceAnswerIn format Scraped limit bytes piece new result → FeedsOn limit format bytes piece (pages.Reading new) result
feeds_as (Ok u) limit format bytes piece new x = x
feeds_as (Err fault) limit format bytes piece new x = x
