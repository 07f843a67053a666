-- A reply without a verdict is short.
use Rattle.std.proofs.Common.{◌≡◌, ℕ, ◌+◌, ◌*◌, ◌≤◌, ◌<◌, Bool, true, false, List, [], ◌∷◌, length, take, Option, Some, None, refl, sym, ap, subst, arith}
use Rattle.std.specs.Prelude.{◌||◌, ◌&&◌, ◌==◌, not, is_none, codes, nat_lt, nat_le, if◌then◌else◌}
use Rattle.std.proofs.lemmas.Bool.{leb-false, ltb-false}
use Rattle.std.proofs.lemmas.List.{length-append}
use Rattle.httparse.specs.Grammar.{ResponseHead, print_response, status_code}
use Rattle.label_sets.specs.Lists.{first_some, when_true}
use Rattle.page_model.specs.declared.format.Format.{Format}
use Rattle.page_model.specs.declared.event.Cause.{Cause}
use Rattle.page_model.specs.declared.event.Cause.TheVariants as causes
use Rattle.http_talk.specs.declared.seen.HeadSeen.TheVariants as seen
use Rattle.http_talk.specs.Heads.{HeadRead, unfinished, missing, found, HeadIs, head_cause, head_format, framing_of, Framing, in_chunks, to_the_end, of_length, is_long, has_other_coding, has_transfer_coding, are_bad_lengths, values_of, head_seen, Shows}
use Rattle.http_talk.specs.Chunks.{Chunks, with_bytes, with_byte, no_chunks}
use Rattle.http_talk.specs.Chunks as chunks
use Rattle.http_talk.specs.Replies.{Judged, waits, goes_on, decided, refused, whole, judged, head_judged, body_judged, or_waits, chunks_verdict, IsJudged, Verdict, is_decided}

middle_false : (a b w : Bool) → (a || b || w) ≡ false → b ≡ false
middle_false true b w e = absurd (cc e)
middle_false false true w e = absurd (cc e)
middle_false false false w e = refl

-- where nothing is certain, each byte was counted
counted : (most : ℕ) (c : Chunks) (bytes : List ℕ) → chunks.is_certain most (with_bytes most c bytes) ≡ false
    → (with_bytes most c bytes).got ≡ c.got + length bytes
counted most c [] e = omega arith
counted most c (b ∷ bytes) e =
    elim (chunks.is_certain most c) as (λ t. chunks.is_certain most c ≡ t → chunks.is_certain most (if t then c else with_bytes most (with_byte c b) bytes) ≡ false
    → (if t then c else with_bytes most (with_byte c b) bytes).got ≡ c.got + length (b ∷ bytes)) [
      | true ↦ λ yes no. absurd (cc (yes, no))
      | false ↦ λ yes no. omega (arith, counted most (with_byte c b) bytes no)
    ] refl e

-- where there is no verdict on chunks, nothing is certain
no_verdict : (most : ℕ) (format : Format) (c : Chunks) → is_decided (or_waits (chunks_verdict most format c)) ≡ false → chunks.is_certain most c ≡ false
unfolding chunks_verdict
no_verdict most format c e = by_tests (chunks.is_body_end c.place) (chunks.is_too_much most c) (chunks.is_wrong c.place) _ _ _ e
  where
    by_tests : (a b w : Bool) (p q r : Verdict) → is_decided (or_waits (first_some (λ v. v) (when_true a p ∷ when_true b q ∷ when_true w r ∷ []))) ≡ false → (a || b || w) ≡ false
    by_tests true b w p q r e = absurd (cc e)
    by_tests false true w p q r e = absurd (cc e)
    by_tests false false true p q r e = absurd (cc e)
    by_tests false false false p q r e = refl

-- chunks on which nothing is certain are not too many bytes
few_chunks : (most head : ℕ) (format : Format) (rest : List ℕ) → is_decided (or_waits (chunks_verdict most format (with_bytes most (no_chunks head) rest))) ≡ false
    → head + length rest ≤ 8 * most + 65536
few_chunks most head format rest e =
    let c = with_bytes most (no_chunks head) rest in
    let none = no_verdict most format c e in
    let much = middle_false (chunks.is_body_end c.place) (chunks.is_too_much most c) (chunks.is_wrong c.place) none in
    omega (arith, counted most (no_chunks head) rest none, ltb-false (8 * most + 65536) c.got (right_false (nat_lt most (length c.held)) (nat_lt (8 * most + 65536) c.got) much))
  where
    right_false : (a b : Bool) → (a || b) ≡ false → b ≡ false
    right_false true b e = absurd (cc e)
    right_false false b e = e

none_last : (a b c d e f : Bool) (p q r s t u : Cause)
    → first_some (λ cause. cause) (when_true a p ∷ when_true b q ∷ when_true c r ∷ when_true d s ∷ when_true e t ∷ when_true f u ∷ []) ≡ None → f ≡ false
none_last true b c d e f p q r s t u x = absurd (cc x)
none_last false true c d e f p q r s t u x = absurd (cc x)
none_last false false true d e f p q r s t u x = absurd (cc x)
none_last false false false true e f p q r s t u x = absurd (cc x)
none_last false false false false true f p q r s t u x = absurd (cc x)
none_last false false false false false true p q r s t u x = absurd (cc x)
none_last false false false false false false p q r s t u x = refl

pub not_long : (most : ℕ) (h : ResponseHead) → head_cause most h ≡ None → is_long most (framing_of h) ≡ false
unfolding head_cause
not_long most h x =
    none_last
    (nat_lt 64 (length h.fields)) (not (status_code h == 200)) (has_other_coding h) (is_none (head_format h))
    (not (has_transfer_coding h) && are_bad_lengths (values_of (codes "content-length") h)) (is_long most (framing_of h))
    causes.Head (causes.Status (status_code h)) causes.Encoding causes.MediaType causes.Head causes.TooLong x

few_bytes : (most head : ℕ) (framing : Framing) (format : Format) (rest : List ℕ) → head ≤ 16384 → is_long most framing ≡ false
    → is_decided (body_judged most head framing format rest) ≡ false → head + length rest ≤ 8 * most + 65536
unfolding body_judged
few_bytes most head in_chunks format rest short fits e = few_chunks most head format rest e
few_bytes most head to_the_end format rest short fits e =
    elim (nat_lt most (length rest)) as (λ t. nat_lt most (length rest) ≡ t → is_decided (if t then decided (refused causes.TooLong) else goes_on format rest) ≡ false → head + length rest ≤ 8 * most + 65536) [
      | true ↦ λ yes no. absurd (cc no)
      | false ↦ λ yes no. omega (arith, short, ltb-false most (length rest) yes)
    ] refl e
few_bytes most head (of_length n) format rest short fits e =
    elim (nat_le n (length rest)) as (λ t. nat_le n (length rest) ≡ t → is_decided (if t then decided (whole format (take n rest)) else waits) ≡ false → head + length rest ≤ 8 * most + 65536) [
      | true ↦ λ yes no. absurd (cc no)
      | false ↦ λ yes no. omega (arith, short, leb-false n (length rest) yes, ltb-false most n fits)
    ] refl e

few_behind : (most : ℕ) (h : ResponseHead) (rest : List ℕ) (cause : Option Cause) (format : Option Format) → length (print_response h) ≤ 16384
    → head_cause most h ≡ cause → is_decided (head_judged most h rest cause format) ≡ false → length (print_response h) + length rest ≤ 8 * most + 65536
few_behind most h rest (Some c) format short is e = absurd (cc e)
few_behind most h rest None None short is e = absurd (cc e)
few_behind most h rest None (Some format) short is e = few_bytes most (length (print_response h)) (framing_of h) format rest short (not_long most h is) e

few_read : (most : ℕ) (got : List ℕ) (head : HeadRead) → HeadIs got head → is_decided (judged most head) ≡ false → length got ≤ 8 * most + 65536
unfolding judged
few_read most got unfinished x e = omega (arith, x.0)
few_read most got missing x e = absurd (cc e)
few_read most got (found h rest) x e =
    omega (arith, few_behind most h rest (head_cause most h) (head_format h) x.1 refl e, ap (length {A = ℕ}) x.0.1, length-append (print_response h) rest)

pub undecided_is_short : (most : ℕ) (got : List ℕ) (known : Judged) → IsJudged most got known → is_decided known ≡ false → length got ≤ 8 * most + 65536
undecided_is_short most got known x e = few_read most got x.head x.head_is (subst (λ k. is_decided k ≡ false) x.known_is e)

unsettled_head : (got : List ℕ) (head : HeadRead) → HeadIs got head → head_seen head ≡ seen.More → length got < 16384
unsettled_head got unfinished x e = x.0
unsettled_head got missing x e = absurd (cc e)
unsettled_head got (found h rest) x e = by_test (nat_lt 64 (length h.fields)) _ e
  where
    by_test : (t : Bool) (s : ℕ) → (if t then seen.Bad else seen.Status s) ≡ seen.More → length got < 16384
    by_test true s e = absurd (cc e)
    by_test false s e = absurd (cc e)

pub unsettled_is_short : (got : List ℕ) → Shows got seen.More → length got < 16384
unsettled_is_short got x = unsettled_head got x.head x.head_is (sym x.what_is)
