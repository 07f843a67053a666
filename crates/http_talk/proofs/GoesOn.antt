-- What is certain of a reply stays, however it goes on.
use Rattle.std.proofs.Common.{◌≡◌, ℕ, ◌+◌, ◌≤◌, Bool, true, false, List, [], ◌∷◌, ◌++◌, length, take, Option, Some, None, refl, sym, ap, ◌∙◌, arith, inl, inr, append_assoc}
use Rattle.std.specs.Prelude.{◌⊎◌, ◌≢◌, ◌||◌, nat_lt, nat_le, if◌then◌else◌}
use Rattle.http_talk.specs.Chunks.{Chunks, with_bytes, with_byte, is_certain, is_body_end, is_wrong, is_too_much, no_chunks}
use Rattle.page_model.specs.declared.format.Format.{Format}
use Rattle.page_model.specs.declared.event.Cause.{Cause}
use Rattle.http_talk.specs.Replies.{waits, goes_on, decided, refused, whole, judged, head_judged, body_judged, sized_body, open_body, Verdict, HasVerdict, chunks_verdict, or_waits}
use Rattle.std.specs.Prelude.{◌*◌}
use Rattle.std.proofs.lemmas.Bool.{leb-true, le-leb, ltb-true, lt-ltb}
use Rattle.std.proofs.lemmas.List.{length-append, take-append-le}
use Rattle.httparse.specs.Grammar.{ResponseHead, print_response, HasNoResponse, NeverHasResponse}
use Rattle.httparse.proofs.GrammarLemmas.{ReadsResponse-append}
use Rattle.label_sets.specs.Lists.{first_some, when_true}
use Rattle.page_model.specs.declared.event.Cause.TheVariants as causes
use Rattle.http_talk.specs.declared.seen.HeadSeen.{HeadSeen}
use Rattle.http_talk.specs.declared.seen.HeadSeen.TheVariants as seen
use Rattle.http_talk.specs.Heads.{HeadRead, unfinished, missing, found, HeadIs, head_cause, head_format, framing_of, Framing, in_chunks, to_the_end, of_length, head_seen, Shows}
use Rattle.http_talk.proofs.HeadTrees.{never_in_front}

-- where something is certain, more bytes change nothing
pub with_bytes-decided : (most : ℕ) (c : Chunks) (bytes : List ℕ) → is_certain most c ≡ true → with_bytes most c bytes ≡ c
with_bytes-decided most c [] e = refl
with_bytes-decided most c (b ∷ bytes) e = rw e refl

pub with_bytes-append : (most : ℕ) (c : Chunks) (bytes more : List ℕ)
    → with_bytes most c (bytes ++ more) ≡ with_bytes most (with_bytes most c bytes) more
with_bytes-append most c [] more = refl
with_bytes-append most c (b ∷ bytes) more =
    elim (is_certain most c) as (λ t. is_certain most c ≡ t → (if t then c else with_bytes most (with_byte c b) (bytes ++ more)) ≡ with_bytes most (if t then c else with_bytes most (with_byte c b) bytes) more) [
      | true ↦ λ e. sym (with_bytes-decided most c more e)
      | false ↦ λ e. with_bytes-append most (with_byte c b) bytes more
    ] refl

by_tests : (a b w : Bool) (p q r v : Verdict) → first_some (λ v. v) (when_true a p ∷ when_true b q ∷ when_true w r ∷ []) ≡ Some v → (a || b || w) ≡ true
by_tests true b w p q r v e = refl
by_tests false true w p q r v e = refl
by_tests false false true p q r v e = refl
by_tests false false false p q r v e = absurd (cc e)

-- a verdict on chunks is there only where something is certain
chunks_decided : (most : ℕ) (format : Format) (c : Chunks) (v : Verdict) → chunks_verdict most format c ≡ Some v → is_certain most c ≡ true
unfolding chunks_verdict
chunks_decided most format c v e = by_tests (is_body_end c.place) (is_too_much most c) (is_wrong c.place) _ _ _ v e

waits_or : (o : Option Verdict) (v : Verdict) → or_waits o ≡ decided v → o ≡ Some v
waits_or None v e = absurd (cc e)
waits_or (Some w) v e = cc e

sized_stays : (n : ℕ) (format : Format) (rest more : List ℕ) (v : Verdict) → sized_body n format rest ≡ decided v → sized_body n format (rest ++ more) ≡ decided v
sized_stays n format rest more v e =
    elim (nat_le n (length rest)) as (λ t. nat_le n (length rest) ≡ t → (if t then decided (whole format (take n rest)) else waits) ≡ decided v → sized_body n format (rest ++ more) ≡ decided v) [
      | true ↦ λ short same. rw (le-leb n (length (rest ++ more)) (omega (arith, leb-true n (length rest) short, length-append rest more)), take-append-le n rest more (leb-true n (length rest) short)) same
      | false ↦ λ long same. absurd (cc same)
    ] refl e

open_stays : (most : ℕ) (format : Format) (rest more : List ℕ) (v : Verdict) → open_body most format rest ≡ decided v → open_body most format (rest ++ more) ≡ decided v
open_stays most format rest more v e =
    elim (nat_lt most (length rest)) as (λ t. nat_lt most (length rest) ≡ t → (if t then decided (refused causes.TooLong) else goes_on format rest) ≡ decided v → open_body most format (rest ++ more) ≡ decided v) [
      | true ↦ λ long same. rw (lt-ltb most (length (rest ++ more)) (omega (arith, ltb-true most (length rest) long, length-append rest more))) same
      | false ↦ λ short same. absurd (cc same)
    ] refl e

body_stays : (most head : ℕ) (framing : Framing) (format : Format) (rest more : List ℕ) (v : Verdict)
    → body_judged most head framing format rest ≡ decided v → body_judged most head framing format (rest ++ more) ≡ decided v
unfolding body_judged
body_stays most head in_chunks format rest more v e =
    let c = with_bytes most (no_chunks head) rest in
    let some = waits_or (chunks_verdict most format c) v e in
    rw (with_bytes-append most (no_chunks head) rest more, with_bytes-decided most c more (chunks_decided most format c v some)) e
body_stays most head to_the_end format rest more v e = open_stays most format rest more v e
body_stays most head (of_length n) format rest more v e = sized_stays n format rest more v e

head_stays : (most : ℕ) (h : ResponseHead) (rest more : List ℕ) (cause : Option Cause) (format : Option Format) (v : Verdict)
    → head_judged most h rest cause format ≡ decided v → head_judged most h (rest ++ more) cause format ≡ decided v
head_stays most h rest more (Some cause) format v e = e
head_stays most h rest more None (Some format) v e = body_stays most (length (print_response h)) (framing_of h) format rest more v e
head_stays most h rest more None None v e = e

-- how the bytes are read once more came
abbrev pub read_on : HeadRead → List ℕ → HeadRead
read_on unfinished more = unfinished
read_on missing more = missing
read_on (found h rest) more = found h (rest ++ more)

-- a head that is found or missing stays so
pub head_goes_on : (got more : List ℕ) (head : HeadRead) → HeadIs got head → head ≢ unfinished → HeadIs (got ++ more) (read_on head more)
head_goes_on got more unfinished x settled = absurd (settled refl)
head_goes_on got more missing x settled = by_cause got more x.0 x.1
  where
    by_cause : (got more : List ℕ) → HasNoResponse (take 16384 got) → ((16384 ≤ length got) ⊎ NeverHasResponse got) → HeadIs (got ++ more) missing
    by_cause got more none (inl long) = (rw (take-append-le 16384 got more long) none, inl (omega (arith, long, length-append got more)))
    by_cause got more none (inr never) =
        let later : NeverHasResponse (got ++ more) = λ others. rw (append_assoc got more others) (never (more ++ others)) in
        (never_in_front 16384 (got ++ more) later, inr later)
head_goes_on got more (found h rest) x settled = (ReadsResponse-append got h rest more x.0, x.1)

known_on : (most : ℕ) (head : HeadRead) (more : List ℕ) (v : Verdict) → judged most head ≡ decided v → judged most (read_on head more) ≡ decided v
unfolding judged
known_on most unfinished more v e = absurd (cc e)
known_on most missing more v e = e
known_on most (found h rest) more v e = head_stays most h rest more (head_cause most h) (head_format h) v e

not_unfinished : (most : ℕ) (head : HeadRead) (v : Verdict) → judged most head ≡ decided v → head ≢ unfinished
unfolding judged
not_unfinished most unfinished v e = absurd (cc e)
not_unfinished most missing v e = λ same. cc same
not_unfinished most (found h rest) v e = λ same. cc same

pub verdict_stays : (most : ℕ) (got more : List ℕ) (v : Verdict) → HasVerdict most got v → HasVerdict most (got ++ more) v
verdict_stays most got more v x = record {
  head = read_on x.head more;
  head_is = head_goes_on got more x.head x.head_is (not_unfinished most x.head v (sym x.known_is));
  known_is = sym (known_on most x.head more v (sym x.known_is));
}

seen_on : (head : HeadRead) (more : List ℕ) → head_seen (read_on head more) ≡ head_seen head
seen_on unfinished more = refl
seen_on missing more = refl
seen_on (found h rest) more = refl

pub shows_stays : (got more : List ℕ) (what : HeadSeen) → Shows got what → what ≢ seen.More → Shows (got ++ more) what
shows_stays got more what x settled = record {
  head = read_on x.head more;
  head_is = head_goes_on got more x.head x.head_is (λ same. settled (x.what_is ∙ ap head_seen same));
  what_is = x.what_is ∙ sym (seen_on x.head more);
}

pub total_is_enough : (most head body : ℕ) → head ≤ 16384 → body ≤ most → head + body ≤ 8 * most + 65536
total_is_enough most head body short few = omega arith
