-- Steps of a reader of a reply.
use Rattle.std.proofs.Common.{◌≡◌, ℕ, ◌+◌, ◌-◌, ◌*◌, ◌≤◌, ◌<◌, Bool, true, false, List, [], ◌∷◌, ◌++◌, length, take, drop, refl, sym, ap, ◌∙◌, subst, arith, append-nil, Option, Some, None}
use Rattle.std.specs.Prelude.{◌≢◌, ◌||◌, ◌==◌, codes, min, if◌then◌else◌, Result, Ok, Err}
use Rattle.std.proofs.lemmas.Bool.{le-leb, lt-leb, lt-ltb, le-ltb, eqb-true, eqb-false}
use Rattle.std.proofs.lemmas.List.{length-append, take_all}
use Rattle.httparse.specs.Grammar.{ResponseHead, print_response, lf}
use Rattle.httparse.specs.declared.spans.HeaderSpan.{HeaderSpan}
use Rattle.httparse.specs.declared.spans.ResponseSpans.{ResponseSpans}
use Rattle.httparse.proofs.GrammarLemmas.{ReadsResponse-append}
use Rattle.httparse.proofs.OnLiterals.{httparse_on_literals}
use Rattle.label_sets.specs.Lists.{first_some, when_true}
use Rattle.page_model.specs.declared.format.Format.{Format}
use Rattle.page_model.specs.declared.event.Cause.TheVariants as causes
use Rattle.http_talk.specs.declared.part.Part.{Part}
use Rattle.http_talk.specs.declared.part.Part.TheVariants as parts
use Rattle.http_talk.specs.declared.chunk_place.ChunkPlace.{ChunkPlace}
use Rattle.http_talk.specs.declared.chunk_place.ChunkPlace.TheVariants as places
use Rattle.http_talk.specs.declared.fault.Progress.{Progress}
use Rattle.http_talk.specs.declared.fault.Progress.TheVariants as progresses
use Rattle.http_talk.specs.declared.fault.ReplyFault.{ReplyFault}
use Rattle.http_talk.specs.declared.fault.ReplyFault.TheVariants as faults
use Rattle.http_talk.specs.declared.seen.HeadSeen.TheVariants as seen
use Rattle.http_talk.specs.Heads.{Shows, HeadRead, unfinished, missing, found, HeadIs, head_cause, head_format, framing_of, Framing, in_chunks, to_the_end, of_length}
use Rattle.http_talk.specs.Chunks.{Chunks, no_chunks, with_bytes, is_certain, is_body_end, is_too_much, is_wrong}
use Rattle.http_talk.specs.ChunkFeeding.{part_behind}
use Rattle.http_talk.specs.HeadFacts.{IsHeadFault, first_part, IsFirstPart}
use Rattle.http_talk.specs.HeadFeeding.{IsHeadAt, IsBadHead}
use Rattle.http_talk.specs.Replies.{waits, goes_on, decided, refused, whole, judged, body_judged, or_waits, chunks_verdict, IsJudged, Verdict, HasVerdict}
use Rattle.http_talk.specs.ReplyReading.{Reader, HasBody, HasKept, Stands, IsRefusal, FeedAnswer}
use Rattle.http_talk.specs.Streams.{IsSoundPart}
use Rattle.http_talk.proofs.HeadFronts.{kept_front}
use Rattle.http_talk.proofs.GoesOn.{head_goes_on, verdict_stays, with_bytes-append}
use Rattle.http_talk.proofs.HeadTrees.{under_way}
use Rattle.http_talk.proofs.Once.{take_past}

abbrev pub reader : ℕ → Part → Format → List ℕ → ℕ → Option ReplyFault → Reader
reader most part format kept got stopped = record { most = most; part = part; format = format; kept = kept; got = got; stopped = stopped }

-- bytes were taken
pub record TakesBytes (old new : Reader) (piece : List ℕ) (result : Result Progress ReplyFault) : Type 0 where
  pub same : new.most ≡ old.most
  pub working : new.stopped ≡ old.stopped
  pub answer : (fed : List ℕ) → Stands fed old → FeedAnswer (fed ++ piece) new result

-- what is certain of a body in chunks
abbrev pub ChunksAnswer : ℕ → Chunks → Result Progress ReplyFault → Type 0
ChunksAnswer most c (Ok progresses.Whole) = c.place ≡ places.Whole
ChunksAnswer most c (Ok progresses.More) = is_certain most c ≡ false
ChunksAnswer most c (Err faults.TooLong) = (is_body_end c.place ≡ false) × (is_too_much most c ≡ true)
ChunksAnswer most c (Err faults.Chunk) = (is_body_end c.place ≡ false) × (is_too_much most c ≡ false) × (is_wrong c.place ≡ true)
ChunksAnswer most c (Err fault) = ⊥

-- ---- what is known behind a head that is taken

found_settled : (h : ResponseHead) (rest : List ℕ) → found h rest ≢ unfinished
found_settled h rest same = cc same

abbrev body_on : (most : ℕ) (fed piece : List ℕ) (format : Format) (framing : Framing) → HasBody most fed format framing → HasBody most (fed ++ piece) format framing
body_on most fed piece format framing b = record {
  head = b.head;
  rest = b.rest ++ piece;
  head_is = head_goes_on fed piece (found b.head b.rest) b.head_is (found_settled b.head b.rest);
  taken = b.taken;
  format_is = b.format_is;
  framing_is = b.framing_is;
}

pub body_known : (most : ℕ) (fed : List ℕ) (format : Format) (framing : Framing) (b : HasBody most fed format framing) → IsJudged most fed (body_judged most (length (print_response b.head)) framing format b.rest)
unfolding judged
body_known most fed format framing b = record { head = found b.head b.rest; head_is = b.head_is; known_is = rw (b.taken, b.format_is, b.framing_is) refl }

-- ---- a reply that is whole

stands_whole : (most : ℕ) (fed kept : List ℕ) (format : Format) (got : ℕ) (stopped : Option ReplyFault) → stopped ≡ None → HasVerdict most fed (whole format kept)
    → FeedAnswer fed (reader most parts.Whole format kept got stopped) (Ok progresses.Whole)
stands_whole most fed kept format got stopped working v =
    record { stands = record { working = working; keeps = v }; known = decided (whole format kept); judged_so = v; progress_is = refl }

-- ---- a body of a length

module _ (most n : ℕ) (part : Part) (format : Format) (kept piece after : List ℕ) (got count : ℕ) (stopped : Option ReplyFault)
    (is : part ≡ parts.Sized n) (counted : count ≡ min (length piece) (n - length kept)) (more : after ≡ kept ++ take count piece) where
  pub sized_whole : count ≡ n - length kept → TakesBytes (reader most part format kept got stopped) (reader most parts.Whole format after got stopped) piece (Ok progresses.Whole)
  unfolding body_judged
  sized_whole all = record {
    same = refl;
    working = refl;
    answer = λ fed s.
        let k = subst (λ p. HasKept p most fed format kept got) is s.keeps in
        let b = body_on most fed piece format (of_length n) k.0 in
        let reached : n ≤ length (k.0.rest ++ piece) = omega (arith, counted, all, k.2, length-append k.0.rest piece, ap (length {A = ℕ}) k.1) in
        let bytes : take n (k.0.rest ++ piece) ≡ after =
        take_past k.0.rest piece n (omega (arith, k.2, ap (length {A = ℕ}) k.1)) ∙ ap (λ xs. xs ++ take (n - length xs) piece) (sym k.1) ∙ ap (λ m. kept ++ take m piece) (sym all) ∙ sym more in
        let sized : body_judged most (length (print_response b.head)) (of_length n) format b.rest ≡ decided (whole format after) = rw (le-leb n (length (k.0.rest ++ piece)) reached, bytes) refl in
        stands_whole most (fed ++ piece) after format got stopped s.working (subst (IsJudged most (fed ++ piece)) sized (body_known most (fed ++ piece) format (of_length n) b));
  }

  pub sized_more : count ≢ n - length kept → TakesBytes (reader most part format kept got stopped) (reader most part format after got stopped) piece (Ok progresses.More)
  unfolding body_judged
  sized_more some = record {
    same = refl;
    working = refl;
    answer = λ fed s.
        let k = subst (λ p. HasKept p most fed format kept got) is s.keeps in
        let b = body_on most fed piece format (of_length n) k.0 in
        let all : count ≡ length piece = omega (arith, counted, some) in
        let bytes : after ≡ k.0.rest ++ piece = more ∙ ap (λ m. kept ++ take m piece) all ∙ ap (λ xs. kept ++ xs) (take_all (length piece) piece (omega arith)) ∙ ap (λ xs. xs ++ piece) k.1 in
        let short : length after < n = omega (arith, counted, some, all, k.2, ap (length {A = ℕ}) bytes, length-append k.0.rest piece, ap (length {A = ℕ}) k.1) in
        let below : length (k.0.rest ++ piece) < n = omega (arith, short, ap (length {A = ℕ}) bytes) in
        let sized : body_judged most (length (print_response b.head)) (of_length n) format b.rest ≡ waits = rw (lt-leb n (length (k.0.rest ++ piece)) below) refl in
        record {
          stands = record { working = s.working; keeps = subst (λ p. HasKept p most (fed ++ piece) format after got) (sym is) (b, bytes, short) };
          known = waits;
          judged_so = subst (IsJudged most (fed ++ piece)) sized (body_known most (fed ++ piece) format (of_length n) b);
          progress_is = refl;
        };
  }

-- ---- a body that goes to the end

module _ (most : ℕ) (part : Part) (format : Format) (kept piece : List ℕ) (got : ℕ) (stopped : Option ReplyFault) (is : part ≡ parts.Open) where
  pub open_long : most - length kept < length piece → (new : Reader) → new.most ≡ most → new.stopped ≡ stopped → TakesBytes (reader most part format kept got stopped) new piece (Err faults.TooLong)
  unfolding body_judged
  open_long much new same working = record {
    same = same;
    working = working;
    answer = λ fed s.
        let k = subst (λ p. HasKept p most fed format kept got) is s.keeps in
        let b = body_on most fed piece format to_the_end k.0 in
        let past : most < length (k.0.rest ++ piece) = omega (arith, much, k.2, length-append k.0.rest piece, ap (length {A = ℕ}) k.1) in
        let long : body_judged most (length (print_response b.head)) to_the_end format b.rest ≡ decided (refused causes.TooLong) = rw (lt-ltb most (length (k.0.rest ++ piece)) past) refl in
        (causes.TooLong, refl, subst (λ m. HasVerdict m (fed ++ piece) (refused causes.TooLong)) (sym same) (subst (IsJudged most (fed ++ piece)) long (body_known most (fed ++ piece) format to_the_end b)));
  }

  pub open_more : length piece ≤ most - length kept → (after : List ℕ) → after ≡ kept ++ piece → TakesBytes (reader most part format kept got stopped) (reader most part format after got stopped) piece (Ok progresses.More)
  unfolding body_judged
  open_more few after more = record {
    same = refl;
    working = refl;
    answer = λ fed s.
        let k = subst (λ p. HasKept p most fed format kept got) is s.keeps in
        let b = body_on most fed piece format to_the_end k.0 in
        let bytes : after ≡ k.0.rest ++ piece = more ∙ ap (λ xs. xs ++ piece) k.1 in
        let short : length after ≤ most = omega (arith, few, k.2, ap (length {A = ℕ}) bytes, length-append k.0.rest piece, ap (length {A = ℕ}) k.1) in
        let within : length (k.0.rest ++ piece) ≤ most = omega (arith, short, ap (length {A = ℕ}) bytes) in
        let on : body_judged most (length (print_response b.head)) to_the_end format b.rest ≡ goes_on format b.rest = rw (le-ltb most (length (k.0.rest ++ piece)) within) refl in
        record {
          stands = record { working = s.working; keeps = subst (λ p. HasKept p most (fed ++ piece) format after got) (sym is) (b, bytes, short) };
          known = goes_on format b.rest;
          judged_so = subst (IsJudged most (fed ++ piece)) on (body_known most (fed ++ piece) format to_the_end b);
          progress_is = refl;
        };
  }

-- ---- a body in chunks

no_chunk_verdict : (most : ℕ) (format : Format) (c : Chunks) → is_certain most c ≡ false → or_waits (chunks_verdict most format c) ≡ waits
unfolding chunks_verdict
no_chunk_verdict most format c e = by_tests (is_body_end c.place) (is_too_much most c) (is_wrong c.place) _ _ _ e
  where
    by_tests : (a b w : Bool) (p q r : Verdict) → (a || b || w) ≡ false → or_waits (first_some (λ v. v) (when_true a p ∷ when_true b q ∷ when_true w r ∷ [])) ≡ waits
    by_tests true b w p q r e = absurd (cc e)
    by_tests false true w p q r e = absurd (cc e)
    by_tests false false true p q r e = absurd (cc e)
    by_tests false false false p q r e = refl

chunked_still : (most : ℕ) (place : ChunkPlace) (held : List ℕ) (got : ℕ) → is_certain most (record { place = place; held = held; got = got }) ≡ false → part_behind place ≡ parts.Chunked place
chunked_still most places.Whole held got e = absurd (cc e)
chunked_still most place held got e = refl

module _ (most : ℕ) (place : ChunkPlace) (format : Format) (kept : List ℕ) (got : ℕ) (piece : List ℕ) (c : Chunks) (is : c ≡ with_bytes most (record { place = place; held = kept; got = got }) piece) where
  joined : (fed : List ℕ) (k : HasKept (parts.Chunked place) most fed format kept got) → with_bytes most (no_chunks (length (print_response k.0.head))) (k.0.rest ++ piece) ≡ c
  joined fed k = with_bytes-append most (no_chunks (length (print_response k.0.head))) k.0.rest piece ∙ ap (λ d. with_bytes most d piece) (sym k.1) ∙ sym is

  chunks_known : (fed : List ℕ) (k : HasKept (parts.Chunked place) most fed format kept got) → IsJudged most (fed ++ piece) (or_waits (chunks_verdict most format c))
  unfolding body_judged
  chunks_known fed k =
      let b = body_on most fed piece format in_chunks k.0 in
      subst (λ d. IsJudged most (fed ++ piece) (or_waits (chunks_verdict most format d))) (joined fed k) (body_known most (fed ++ piece) format in_chunks b)

pub chunks_take : (result : Result Progress ReplyFault) (most : ℕ) (place : ChunkPlace) (part after : Part) (format : Format) (kept : List ℕ) (got : ℕ) (stopped : Option ReplyFault) (piece : List ℕ) (c : Chunks)
    → part ≡ parts.Chunked place → c ≡ with_bytes most (record { place = place; held = kept; got = got }) piece → ChunksAnswer most c result → after ≡ part_behind c.place
    → TakesBytes (reader most part format kept got stopped) (reader most after format c.held c.got stopped) piece result
unfolding chunks_verdict
chunks_take (Ok progresses.Whole) most place part after format kept got stopped piece c at is answer behind = record {
  same = refl;
  working = refl;
  answer = λ fed s.
      let k = subst (λ p. HasKept p most fed format kept got) at s.keeps in
      let here : after ≡ parts.Whole = behind ∙ ap part_behind answer in
      let sure : or_waits (chunks_verdict most format c) ≡ decided (whole format c.held) = rw answer refl in
      subst (λ p. FeedAnswer (fed ++ piece) (reader most p format c.held c.got stopped) (Ok progresses.Whole)) (sym here)
      (stands_whole most (fed ++ piece) c.held format c.got stopped s.working (subst (IsJudged most (fed ++ piece)) sure (chunks_known most place format kept got piece c is fed k)));
}
chunks_take (Ok progresses.More) most place part after format kept got stopped piece c at is answer behind = record {
  same = refl;
  working = refl;
  answer = λ fed s.
      let k = subst (λ p. HasKept p most fed format kept got) at s.keeps in
      let here : after ≡ parts.Chunked c.place = behind ∙ chunked_still most c.place c.held c.got answer in
      let b = body_on most fed piece format in_chunks k.0 in
      record {
        stands = record { working = s.working; keeps = subst (λ p. HasKept p most (fed ++ piece) format c.held c.got) (sym here) (b, sym (joined most place format kept got piece c is fed k), answer) };
        known = waits;
        judged_so = subst (IsJudged most (fed ++ piece)) (no_chunk_verdict most format c answer) (chunks_known most place format kept got piece c is fed k);
        progress_is = refl;
      };
}
chunks_take (Err faults.TooLong) most place part after format kept got stopped piece c at is answer behind = record {
  same = refl;
  working = refl;
  answer = λ fed s.
      let k = subst (λ p. HasKept p most fed format kept got) at s.keeps in
      let sure : or_waits (chunks_verdict most format c) ≡ decided (refused causes.TooLong) = rw (answer.0, answer.1) refl in
      (causes.TooLong, refl, subst (IsJudged most (fed ++ piece)) sure (chunks_known most place format kept got piece c is fed k));
}
chunks_take (Err faults.Chunk) most place part after format kept got stopped piece c at is answer behind = record {
  same = refl;
  working = refl;
  answer = λ fed s.
      let k = subst (λ p. HasKept p most fed format kept got) at s.keeps in
      let sure : or_waits (chunks_verdict most format c) ≡ decided (refused causes.Chunk) = rw (answer.0, answer.1, answer.2) refl in
      (causes.Chunk, refl, subst (IsJudged most (fed ++ piece)) sure (chunks_known most place format kept got piece c is fed k));
}
chunks_take (Err fault) most place part after format kept got stopped piece c at is answer behind = absurd answer

-- ---- the first body byte

-- the bytes of a head that was found
pub head_bytes : (kept : List ℕ) (spans : List HeaderSpan) (parsed : ResponseSpans) (h : ResponseHead) → IsHeadAt kept spans parsed h → take parsed.len kept ≡ print_response h
head_bytes kept spans parsed h at =
    let none : parsed.len - length (print_response h) ≡ 0 = omega (arith, at.at.len) in
    ap (λ bs. take parsed.len bs) at.at.reads.1 ∙ take_past (print_response h) (drop parsed.len kept) parsed.len (omega (arith, at.at.len))
    ∙ ap (λ n. print_response h ++ take n (drop parsed.len kept)) none ∙ append-nil (print_response h)

pub head_short : (kept : List ℕ) (spans : List HeaderSpan) (parsed : ResponseSpans) (h : ResponseHead) → IsHeadAt kept spans parsed h → length kept ≤ 16384 → length (print_response h) ≤ 16384
head_short kept spans parsed h at short = omega (arith, short, at.at.len, at.within.section.len_fits)

pub head_alone : (kept : List ℕ) (spans : List HeaderSpan) (parsed : ResponseSpans) (h : ResponseHead) → IsHeadAt kept spans parsed h → length kept ≤ 16384 → HeadIs (take parsed.len kept) (found h [])
head_alone kept spans parsed h at short =
    subst (λ bs. HeadIs bs (found h [])) (sym (head_bytes kept spans parsed h at)) ((at.at.reads.0, sym (append-nil (print_response h))), head_short kept spans parsed h at short)

-- what is kept and a piece begin with the head
pub head_and_more : (kept piece : List ℕ) (spans : List HeaderSpan) (parsed : ResponseSpans) (h : ResponseHead) → IsHeadAt kept spans parsed h → length kept ≤ 16384 → HeadIs (kept ++ piece) (found h (drop parsed.len kept ++ piece))
head_and_more kept piece spans parsed h at short = (ReadsResponse-append kept h (drop parsed.len kept) piece at.at.reads, head_short kept spans parsed h at short)

pub refused_head : (fault : ReplyFault) (most : ℕ) (got : List ℕ) (h : ResponseHead) (rest : List ℕ) → IsHeadFault most h fault → HeadIs got (found h rest) → IsRefusal most got fault
unfolding judged
refused_head faults.Head most got h rest is at = (causes.Head, refl, record { head = found h rest; head_is = at; known_is = rw (sym is) refl })
refused_head (faults.Status code) most got h rest is at = (causes.Status code, refl, record { head = found h rest; head_is = at; known_is = rw (sym is) refl })
refused_head faults.Encoding most got h rest is at = (causes.Encoding, refl, record { head = found h rest; head_is = at; known_is = rw (sym is) refl })
refused_head faults.MediaType most got h rest is at = (causes.MediaType, refl, record { head = found h rest; head_is = at; known_is = rw (sym is) refl })
refused_head faults.TooLong most got h rest is at = (causes.TooLong, refl, record { head = found h rest; head_is = at; known_is = rw (sym is) refl })
refused_head faults.Chunk most got h rest is at = (causes.Chunk, refl, record { head = found h rest; head_is = at; known_is = rw (sym is) refl })
refused_head faults.Truncated most got h rest is at = absurd is
refused_head faults.Memory most got h rest is at = absurd is

module _ (most : ℕ) (fed : List ℕ) (h : ResponseHead) (format : Format) (got : ℕ) (at : HeadIs fed (found h [])) (taken : head_cause most h ≡ None) (known : head_format h ≡ Some format) (count : got ≡ length (print_response h)) (short : got ≤ 16384) where
  abbrev body_begun : (framing : Framing) → framing_of h ≡ framing → HasBody most fed format framing
  body_begun framing is = record { head = h; rest = []; head_is = at; taken = taken; format_is = known; framing_is = is }

  kept_first : (framing : Framing) → framing_of h ≡ framing → HasKept (first_part framing) most fed format [] got
  unfolding body_judged
  kept_first in_chunks is =
      let chunks : (let a : Chunks = record { place = places.Digits 0 0; held = []; got = got } in a) ≡ no_chunks (length (print_response h)) = ap (λ n. (let a : Chunks = record { place = places.Digits 0 0; held = []; got = n } in a)) count in
      (body_begun in_chunks is, chunks, rw (le-ltb most 0 (omega arith), le-ltb (8 * most + 65536) got (omega (arith, short))) refl)
  kept_first to_the_end is = (body_begun to_the_end is, refl, omega arith)
  kept_first (of_length n) is =
      elim (n == 0) as (λ t. (n == 0) ≡ t → HasKept (if t then parts.Whole else parts.Sized n) most fed format [] got) [
        | true ↦ λ none.
            let b = body_begun (of_length n) is in
            let zero_long : n ≡ 0 = eqb-true n 0 none in
            let all : body_judged most (length (print_response h)) (of_length n) format [] ≡ decided (whole format []) = subst (λ m. body_judged most (length (print_response h)) (of_length m) format [] ≡ decided (whole format [])) (sym zero_long) refl in
            subst (IsJudged most fed) all (body_known most fed format (of_length n) b)
        | false ↦ λ some. (body_begun (of_length n) is, refl, omega (arith, eqb-false n 0 some))
      ] refl

  pub begin_stands : (part : Part) (stopped : Option ReplyFault) → part ≡ first_part (framing_of h) → stopped ≡ None → Stands fed (reader most part format [] got stopped)
  begin_stands part stopped is working = record { working = working; keeps = subst (λ p. HasKept p most fed format [] got) (sym is) (kept_first (framing_of h) refl) }

-- a first part is sound
pub first_sound : (part : Part) (most : ℕ) → IsFirstPart part → IsSoundPart part most 0
first_sound parts.Head most is = absurd is
first_sound (parts.Sized n) most is = is
first_sound parts.Open most is = omega arith
first_sound (parts.Chunked place) most is = is
first_sound parts.Whole most is = tt

-- ---- a head that is not there yet

pub kept_head : (r : Reader) (fed : List ℕ) → r.part ≡ parts.Head → Stands fed r → (r.kept ≡ fed) × HeadIs fed unfinished
kept_head r fed is s = subst (λ p. HasKept p r.most fed r.format r.kept r.got) is s.keeps

pub head_more : (most : ℕ) (got : List ℕ) (part : Part) (format : Format) (kept : List ℕ) (n : ℕ) (stopped : Option ReplyFault) → part ≡ parts.Head → stopped ≡ None → HeadIs got unfinished → kept ≡ got
    → FeedAnswer got (reader most part format kept n stopped) (Ok progresses.More)
unfolding judged
head_more most got part format kept n stopped is working at same = record {
  stands = record { working = working; keeps = subst (λ p. HasKept p most got format kept n) (sym is) (same, at) };
  known = waits;
  judged_so = record { head = unfinished; head_is = at; known_is = refl };
  progress_is = refl;
}

-- what is kept with a piece
head_kept : (fed piece kept after : List ℕ) (count : ℕ) → kept ≡ fed → length fed < 16384 → count ≡ min (16384 - length kept) (length piece) → after ≡ kept ++ take count piece → after ≡ take 16384 (fed ++ piece)
head_kept fed piece kept after count same short counted more =
    let all : count ≡ min (16384 - length fed) (length piece) = counted ∙ ap (λ xs. min (16384 - length xs) (length piece)) same in
    more ∙ ap (λ n. kept ++ take n piece) all ∙ ap (λ xs. xs ++ take (min (16384 - length fed) (length piece)) piece) same ∙ kept_front fed piece short

pub head_bad : (most : ℕ) (got : List ℕ) (head : HeadRead) → HeadIs got head → IsBadHead head → IsRefusal most got faults.Head
unfolding judged head_cause
head_bad most got unfinished at bad = absurd bad
head_bad most got missing at bad = (causes.Head, refl, record { head = missing; head_is = at; known_is = refl })
head_bad most got (found h rest) at bad = (causes.Head, refl, record { head = found h rest; head_is = at; known_is = rw (lt-ltb 64 (length h.fields) bad) refl })

module _ (most : ℕ) (part : Part) (format : Format) (kept piece after : List ℕ) (got count : ℕ) (stopped : Option ReplyFault)
    (is : part ≡ parts.Head) (counted : count ≡ min (16384 - length kept) (length piece)) (more : after ≡ kept ++ take count piece) where
  pub fed_front : (fed : List ℕ) → Stands fed (reader most part format kept got stopped) → after ≡ take 16384 (fed ++ piece)
  fed_front fed s = let k = kept_head (reader most part format kept got stopped) fed is s in head_kept fed piece kept after count k.0 k.1.0 counted more

  pub head_takes_more : ((g : List ℕ) → after ≡ take 16384 g → HeadIs g unfinished × (after ≡ g)) → TakesBytes (reader most part format kept got stopped) (reader most part format after got stopped) piece (Ok progresses.More)
  head_takes_more says = record {
    same = refl;
    working = refl;
    answer = λ fed s. let told = says (fed ++ piece) (fed_front fed s) in head_more most (fed ++ piece) part format after got stopped is s.working told.0 told.1;
  }

  pub head_takes_bad : ((g : List ℕ) → after ≡ take 16384 g → (head : HeadRead) × HeadIs g head × IsBadHead head) → TakesBytes (reader most part format kept got stopped) (reader most part format after got stopped) piece (Err faults.Head)
  head_takes_bad says = record {
    same = refl;
    working = refl;
    answer = λ fed s. let told = says (fed ++ piece) (fed_front fed s) in head_bad most (fed ++ piece) told.0 told.1 told.2;
  }

-- a refusal stands, however the reply goes on
pub refusal_stays : (fault : ReplyFault) (most : ℕ) (fed piece : List ℕ) → IsRefusal most fed fault → IsRefusal most (fed ++ piece) fault
refusal_stays faults.Truncated most fed piece x = absurd x
refusal_stays faults.Memory most fed piece x = tt
refusal_stays _ most fed piece x = (x.0, x.1, verdict_stays most fed piece (refused x.0) x.2)

-- nothing came
pub nothing_fed : HeadIs [] unfinished
unfolding httparse_on_literals
nothing_fed = under_way [] 72 (codes "TTP/1.1 200\n\n") (record { blank = []; minor = 1; digits = codes "200"; reason = None; line_end = lf; fields = []; last = lf }) refl refl refl

pub nothing_shown : Shows [] seen.More
nothing_shown = record { head = unfinished; head_is = nothing_fed; what_is = refl }

pub new_stands : (most : ℕ) (format : Format) (kept : List ℕ) (got : ℕ) → kept ≡ [] → Stands [] (reader most parts.Head format kept got None)
new_stands most format kept got none = record { working = refl; keeps = (none, nothing_fed) }

-- ---- the end

pub end_waits : (most : ℕ) (part : Part) (fed : List ℕ) (format : Format) (kept : List ℕ) (got : ℕ) → part ≢ parts.Open → part ≢ parts.Whole → HasKept part most fed format kept got → IsJudged most fed waits
unfolding judged body_judged
end_waits most parts.Head fed format kept got a b k = record { head = unfinished; head_is = k.1; known_is = refl }
end_waits most (parts.Sized n) fed format kept got a b k =
    let short : length k.0.rest < n = omega (arith, k.2, ap (length {A = ℕ}) k.1) in
    let sized : body_judged most (length (print_response k.0.head)) (of_length n) format k.0.rest ≡ waits = rw (lt-leb n (length k.0.rest) short) refl in
    subst (IsJudged most fed) sized (body_known most fed format (of_length n) k.0)
end_waits most parts.Open fed format kept got a b k = absurd (a refl)
end_waits most (parts.Chunked place) fed format kept got a b k =
    let c : Chunks = record { place = place; held = kept; got = got } in
    subst (IsJudged most fed) (ap (λ d. or_waits (chunks_verdict most format d)) (sym k.1) ∙ no_chunk_verdict most format c k.2) (body_known most fed format in_chunks k.0)
end_waits most parts.Whole fed format kept got a b k = absurd (b refl)

pub end_open : (most : ℕ) (fed : List ℕ) (format : Format) (kept : List ℕ) (got : ℕ) → HasKept parts.Open most fed format kept got → IsJudged most fed (goes_on format kept)
unfolding body_judged
end_open most fed format kept got k =
    let within : length k.0.rest ≤ most = omega (arith, k.2, ap (length {A = ℕ}) k.1) in
    let on : body_judged most (length (print_response k.0.head)) to_the_end format k.0.rest ≡ goes_on format kept = rw (le-ltb most (length k.0.rest) within) (ap (λ xs. goes_on format xs) (sym k.1)) in
    subst (IsJudged most fed) on (body_known most fed format to_the_end k.0)
