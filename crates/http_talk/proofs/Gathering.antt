-- A piece that is fed to a stream, and the bytes of the body that it gives.
use Rattle.std.proofs.Common.{◌≡◌, ℕ, ◌+◌, ◌-◌, ◌*◌, ◌≤◌, ◌<◌, false, List, ◌++◌, length, take, drop, refl, sym, ap, ◌∙◌, subst, arith, append_assoc, append-nil, Option, Some, None}
use Rattle.std.specs.Prelude.{◌⊎◌, ⊤, slice_range, Result, Ok, Err}
use Rattle.std.proofs.lemmas.List.{length-take, length-drop, take-append-drop, take_all}
use Rattle.std.proofs.Math.Seq.{take-add}
use Rattle.page_model.specs.declared.format.Format.{Format}
use Rattle.http_talk.specs.declared.part.Part.{Part}
use Rattle.http_talk.specs.declared.part.Part.TheVariants as parts
use Rattle.http_talk.specs.declared.fault.Progress.{Progress}
use Rattle.http_talk.specs.declared.fault.Progress.TheVariants as progresses
use Rattle.http_talk.specs.declared.fault.ReplyFault.{ReplyFault}
use Rattle.http_talk.specs.declared.fault.ReplyFault.TheVariants as faults
use Rattle.http_talk.specs.Replies.{Judged, waits, goes_on, decided, whole, IsJudged, HasVerdict, is_decided}
use Rattle.http_talk.specs.ReplyReading.{Reader, HasKept, Stands, IsRefusal, FeedAnswer, FinishAnswer, kept_by, progress_of}
use Rattle.http_talk.specs.Streams.{Streaming, told_at, told_of_head, HasGiven, reader_with, reader_of, Flows, HasFlowed, GatherAnswer, IsUsedUp, EndsHead, GivesBody, IsAllGiven, StreamEnd, GathersFront, heads_to_tell}
use Rattle.http_talk.proofs.Once.{known_once}
use Rattle.http_talk.proofs.GoesOn.{verdict_stays}
use Rattle.http_talk.proofs.ReplySteps.{refusal_stays, end_waits, end_open}
use Rattle.http_talk.proofs.StreamGiven.{flows_by}
use Rattle.http_talk.proofs.StreamSteps.{whole_again}

-- a stream that gave all of a whole reply reads nothing more
is_behind : (part : Part) (most : ℕ) (fed : List ℕ) (format f : Format) (kept given : List ℕ) (got : ℕ) → HasKept part most fed format kept got → HasVerdict most fed (whole f given) → part ≡ parts.Whole
is_behind parts.Whole most fed format f kept given got k v = refl
is_behind parts.Open most fed format f kept given got k v = absurd (cc (known_once most fed (goes_on format kept) (decided (whole f given)) (end_open most fed format kept got k) v))
is_behind parts.Head most fed format f kept given got k v = absurd (cc (known_once most fed waits (decided (whole f given)) (end_waits most parts.Head fed format kept got (λ e. cc e) (λ e. cc e) k) v))
is_behind (parts.Sized n) most fed format f kept given got k v = absurd (cc (known_once most fed waits (decided (whole f given)) (end_waits most (parts.Sized n) fed format kept got (λ e. cc e) (λ e. cc e) k) v))
is_behind (parts.Chunked place) most fed format f kept given got k v = absurd (cc (known_once most fed waits (decided (whole f given)) (end_waits most (parts.Chunked place) fed format kept got (λ e. cc e) (λ e. cc e) k) v))

pub whole_on : (s : Streaming) (fed given more : List ℕ) (f : Format) → Flows fed given s → HasVerdict s.most fed (whole f given) → Flows (fed ++ more) given s
whole_on s fed given more f x v =
    (whole_again s (is_behind s.part s.most fed s.format f (kept_by s.part s.kept given) given s.got x.stands.keeps v) fed given x more).1

-- ---- one turn

more_progress : (known : Judged) → is_decided known ≡ false → progresses.More ≡ progress_of known
more_progress (decided v) e = absurd (cc e)
more_progress waits e = refl
more_progress (goes_on format given) e = refl

pub turn_used_up : (fed body piece : List ℕ) (used : ℕ) (old new : Streaming) → IsUsedUp fed body used piece old new → GatherAnswer (fed ++ piece) body new (Ok progresses.More)
turn_used_up fed body piece used old new x = (x.flows_on, x.known, x.judged_so, more_progress x.known x.undecided)

pub turn_whole : (fed body piece : List ℕ) (used : ℕ) (old new : Streaming) → IsAllGiven fed body (take used piece) old new → GatherAnswer (fed ++ piece) body new (Ok progresses.Whole)
turn_whole fed body piece used old new x =
    let bytes : (fed ++ take used piece) ++ drop used piece ≡ fed ++ piece = append_assoc fed (take used piece) (drop used piece) ∙ ap (λ xs. fed ++ xs) (take-append-drop used piece) in
    let on = whole_on new (fed ++ take used piece) body (drop used piece) x.format x.flows_on x.verdict in
    let v = verdict_stays new.most (fed ++ take used piece) (drop used piece) (whole x.format body) x.verdict in
    (subst (λ bs. Flows bs body new) bytes on, decided (whole x.format body), subst (λ bs. IsJudged new.most bs (decided (whole x.format body))) bytes v, refl)

fewer : (format : Format) (taken : ℕ) (a b : Option Format) → a ≡ None → b ≡ Some format → heads_to_tell b < 2 * taken + heads_to_tell a
fewer format taken a b none told = rw (none, told) (omega arith)

pub turn_head : (format : Format) (fed body piece : List ℕ) (used : ℕ) (old new : Streaming) → used ≤ length piece → EndsHead format fed body (take used piece) old new → GathersFront fed piece body used old new
turn_head format fed body piece used old new within x = record {
  within = within;
  some = fewer format used (told_of_head old) (told_of_head new) x.first x.told;
  flows_on = subst (λ xs. Flows (fed ++ take used piece) xs new) (sym x.none) x.flows_on;
}

pub turn_body : (fed body piece after : List ℕ) (from to used : ℕ) (old new : Streaming) → used ≤ length piece → after ≡ body ++ slice_range piece from to → GivesBody from to fed body used piece old new → GathersFront fed piece after used old new
turn_body fed body piece after from to used old new within is x = record {
  within = within;
  some = omega (arith, x.some, x.last, ap heads_to_tell x.told);
  flows_on = subst (λ xs. Flows (fed ++ take used piece) xs new) (sym is) x.flows_on;
}

-- ---- a block, turn by turn

-- some bytes of a block were fed, and what was given of the body is kept
pub record Gathered (start : Streaming) (before block : List ℕ) (at : ℕ) (now : Streaming) (body : List ℕ) : Type 0 where
  pub within : at ≤ length block
  pub same : now.most ≡ start.most
  pub flowed : (fed : List ℕ) → Flows fed before start → Flows (fed ++ take at block) body now

pub nothing_gathered : (start : Streaming) (before block : List ℕ) → Gathered start before block 0 start before
nothing_gathered start before block = record {
  within = omega arith;
  same = refl;
  flowed = λ fed f. subst (λ xs. Flows xs before start) (sym (append-nil fed)) f;
}

pub still_flowed : (start : Streaming) (before block : List ℕ) (at : ℕ) (now : Streaming) (body : List ℕ) → Gathered start before block at now body → HasFlowed start before → HasFlowed now body
still_flowed start before block at now body g some = (some.0 ++ take at block, g.flowed some.0 some.1)

rest_is : (block : List ℕ) (at : ℕ) → take (length block - at) (drop at block) ≡ drop at block
rest_is block at = take_all (length block - at) (drop at block) (omega (arith, length-drop at block))

module _ (start : Streaming) (before block rest : List ℕ) (at : ℕ) (now new : Streaming) (body after : List ℕ) (g : Gathered start before block at now body) (is : rest ≡ take (length block - at) (drop at block)) where
  pub gathers_on : (taken : ℕ) → new.most ≡ now.most → ((fed : List ℕ) → Flows fed body now → GathersFront fed rest after taken now new) → HasFlowed start before
      → Gathered start before block (at + taken) new after × (2 * (length block - (at + taken)) + heads_to_tell (told_of_head new) < 2 * (length block - at) + heads_to_tell (told_of_head now))
  gathers_on taken same x some =
      let one = x (some.0 ++ take at block) (g.flowed some.0 some.1) in
      let long : length rest ≡ length block - at = omega (arith, ap (length {A = ℕ}) (is ∙ rest_is block at), length-drop at block) in
      let step : Gathered start before block (at + taken) new after = record {
        within = omega (arith, one.within, long, g.within);
        same = same ∙ g.same;
        flowed = λ fed f.
            let bytes : (fed ++ take at block) ++ take taken rest ≡ fed ++ take (at + taken) block =
            append_assoc fed (take at block) (take taken rest) ∙ ap (λ xs. fed ++ (take at block ++ take taken xs)) (is ∙ rest_is block at) ∙ ap (λ xs. fed ++ xs) (sym (take-add at taken block)) in
            subst (λ bs. Flows bs after new) bytes (x (fed ++ take at block) (g.flowed fed f)).flows_on;
      } in
      (step, omega (arith, one.some, one.within, long, g.within))

  all_bytes : (fed : List ℕ) → (fed ++ take at block) ++ rest ≡ fed ++ block
  all_bytes fed = append_assoc fed (take at block) rest ∙ ap (λ xs. fed ++ (take at block ++ xs)) (is ∙ rest_is block at) ∙ ap (λ xs. fed ++ xs) (take-append-drop at block)

  pub gathers_last : (progress : Progress) → ((fed : List ℕ) → Flows fed body now → GatherAnswer (fed ++ rest) after new (Ok progress)) → (fed : List ℕ) → Flows fed before start → GatherAnswer (fed ++ block) after new (Ok progress)
  gathers_last progress x fed f = subst (λ bs. GatherAnswer bs after new (Ok progress)) (all_bytes fed) (x (fed ++ take at block) (g.flowed fed f))

  pub gathers_badly : (fault : ReplyFault) → ((fed : List ℕ) → Flows fed body now → IsRefusal new.most (fed ++ rest) fault) → (fed : List ℕ) → Flows fed before start → IsRefusal new.most (fed ++ block) fault
  gathers_badly fault x fed f = subst (λ bs. IsRefusal new.most bs fault) (all_bytes fed) (x (fed ++ take at block) (g.flowed fed f))

-- ---- a piece, block by block

module _ (start : Streaming) (before piece : List ℕ) (at n : ℕ) (now new : Streaming) (body after : List ℕ) (g : Gathered start before piece at now body) (inside : at + n ≤ length piece) where
  abbrev block_at : List ℕ
  block_at = slice_range piece at (at + n)

  block_is : block_at ≡ take n (drop at piece)
  block_is = ap (λ m. take m (drop at piece)) (let e : at + n - at ≡ n = omega arith in e)

  pub block_long : length block_at ≡ n
  block_long = omega (arith, ap (length {A = ℕ}) block_is, length-take n (drop at piece), length-drop at piece, inside)

  pub gathers_block : (progress : Progress) → new.most ≡ now.most → ((fed : List ℕ) → Flows fed body now → GatherAnswer (fed ++ block_at) after new (Ok progress)) → Gathered start before piece (at + n) new after
  gathers_block progress same x = record {
    within = inside;
    same = same ∙ g.same;
    flowed = λ fed f.
        let bytes : (fed ++ take at piece) ++ block_at ≡ fed ++ take (at + n) piece =
        append_assoc fed (take at piece) block_at ∙ ap (λ xs. fed ++ (take at piece ++ xs)) block_is ∙ ap (λ xs. fed ++ xs) (sym (take-add at n piece)) in
        subst (λ bs. Flows bs after new) bytes (x (fed ++ take at piece) (g.flowed fed f)).0;
  }

  pub block_badly : (fault : ReplyFault) → ((fed : List ℕ) → Flows fed body now → IsRefusal new.most (fed ++ block_at) fault) → (fed : List ℕ) → Flows fed before start → IsRefusal new.most (fed ++ piece) fault
  block_badly fault x fed f =
      let bytes : ((fed ++ take at piece) ++ block_at) ++ drop (at + n) piece ≡ fed ++ piece =
      ap (λ bs. bs ++ drop (at + n) piece) (append_assoc fed (take at piece) block_at ∙ ap (λ xs. fed ++ (take at piece ++ xs)) block_is ∙ ap (λ xs. fed ++ xs) (sym (take-add at n piece)))
      ∙ append_assoc fed (take (at + n) piece) (drop (at + n) piece) ∙ ap (λ xs. fed ++ xs) (take-append-drop (at + n) piece) in
      subst (λ bs. IsRefusal new.most bs fault) bytes (refusal_stays fault new.most ((fed ++ take at piece) ++ block_at) (drop (at + n) piece) (x (fed ++ take at piece) (g.flowed fed f)))

pub gathers_rest : (result : Result Progress ReplyFault) (start : Streaming) (before piece rest : List ℕ) (at : ℕ) (now new : Streaming) (body after : List ℕ) → Gathered start before piece at now body → rest ≡ take (length piece - at) (drop at piece)
    → ((fed : List ℕ) → Flows fed body now → GatherAnswer (fed ++ rest) after new result) → (fed : List ℕ) → Flows fed before start → GatherAnswer (fed ++ piece) after new result
gathers_rest result start before piece rest at now new body after g is x fed f =
    subst (λ bs. GatherAnswer bs after new result) (append_assoc fed (take at piece) rest ∙ ap (λ xs. fed ++ (take at piece ++ xs)) (is ∙ rest_is piece at) ∙ ap (λ xs. fed ++ xs) (take-append-drop at piece)) (x (fed ++ take at piece) (g.flowed fed f))

-- ---- a reader over a stream

-- the bytes that a reader stands for are those that its stream was fed
pub stream_stands : (s : Streaming) (body : List ℕ) (stopped : Option ReplyFault) (fed : List ℕ) → HasFlowed s body → Stands fed (reader_of s body stopped) → Flows fed body s
stream_stands s body stopped fed some x =
    let stands : Stands fed (reader_with s body) = record { working = some.1.stands.working; keeps = x.keeps } in
    flows_by fed body s stands (λ head. (subst (λ t. HasGiven s.most some.0 t body) (ap (λ p. told_at p s.format) head) some.1.gave).0) some.1.count

pub reader_stands : (s : Streaming) (body : List ℕ) (fed : List ℕ) → Flows fed body s → Stands fed (reader_of s body None)
reader_stands s body fed f = record { working = refl; keeps = f.stands.keeps }

pub gather_feeds : (s : Streaming) (body : List ℕ) (fed : List ℕ) (progress : Progress) → GatherAnswer fed body s (Ok progress) → FeedAnswer fed (reader_of s body None) (Ok progress)
gather_feeds s body fed progress x = record { stands = reader_stands s body fed x.0; known = x.1; judged_so = x.2; progress_is = x.3 }

-- the end of a stream is that of its reader
body_end : (part : Part) (most : ℕ) (fed body : List ℕ) (format : Format) (u : ⊤) → StreamEnd most fed (told_at part format) body (Ok u) → HasVerdict most fed (whole format body) ⊎ IsJudged most fed (goes_on format body)
body_end parts.Head most fed body format u x = absurd x
body_end (parts.Sized n) most fed body format u x = x
body_end parts.Open most fed body format u x = x
body_end (parts.Chunked place) most fed body format u x = x
body_end parts.Whole most fed body format u x = x

pub ends_with_body : (s : Streaming) (body bytes fed : List ℕ) (stopped : Option ReplyFault) (r : Reader) (format : Format) (u : ⊤) → reader_of s body stopped ≡ r → format ≡ s.format → bytes ≡ body
    → StreamEnd s.most fed (told_of_head s) body (Ok u) → HasVerdict r.most fed (whole format bytes) ⊎ IsJudged r.most fed (goes_on format bytes)
ends_with_body s body bytes fed stopped r format u is named same x =
    rw (named, same) (subst (λ m. HasVerdict m fed (whole s.format body) ⊎ IsJudged m fed (goes_on s.format body)) (ap (λ (q : Reader). q.most) is) (body_end s.part s.most fed body s.format u x))

pub ends_without : (fault : ReplyFault) (s : Streaming) (body fed : List ℕ) (stopped : Option ReplyFault) (r : Reader) → reader_of s body stopped ≡ r → StreamEnd s.most fed (told_of_head s) body (Err fault) → FinishAnswer r.most fed (Err fault)
ends_without faults.Truncated s body fed stopped r is x = subst (λ m. IsJudged m fed waits) (ap (λ (q : Reader). q.most) is) x
ends_without faults.Head s body fed stopped r is x = absurd x
ends_without (faults.Status code) s body fed stopped r is x = absurd x
ends_without faults.Encoding s body fed stopped r is x = absurd x
ends_without faults.MediaType s body fed stopped r is x = absurd x
ends_without faults.TooLong s body fed stopped r is x = absurd x
ends_without faults.Chunk s body fed stopped r is x = absurd x
ends_without faults.Memory s body fed stopped r is x = absurd x

pub gather_feeds_as : (s : Streaming) (body fed : List ℕ) (stopped : Option ReplyFault) (progress : Progress) → stopped ≡ None → GatherAnswer fed body s (Ok progress) → FeedAnswer fed (reader_of s body stopped) (Ok progress)
gather_feeds_as s body fed stopped progress is x = subst (λ o. FeedAnswer fed (reader_of s body o) (Ok progress)) (sym is) (gather_feeds s body fed progress x)
