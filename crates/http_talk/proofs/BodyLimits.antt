-- The body that is known of a reply has no more bytes than it may have.
use Rattle.std.proofs.Common.{◌≡◌, ℕ, ◌+◌, ◌-◌, ◌*◌, ◌≤◌, Bool, true, false, List, [], ◌∷◌, length, take, Option, Some, None, refl, sym, subst, ap, arith}
use Rattle.std.specs.Prelude.{◌||◌, nat_lt, nat_le, if◌then◌else◌, ⊤}
use Rattle.std.proofs.lemmas.Bool.{ltb-false}
use Rattle.std.proofs.lemmas.List.{length-take}
use Rattle.httparse.specs.Grammar.{ResponseHead, print_response}
use Rattle.label_sets.specs.Lists.{first_some, when_true}
use Rattle.page_model.specs.declared.format.Format.{Format}
use Rattle.page_model.specs.declared.event.Cause.{Cause}
use Rattle.page_model.specs.declared.event.Cause.TheVariants as causes
use Rattle.http_talk.specs.declared.chunk_place.ChunkPlace.{ChunkPlace}
use Rattle.http_talk.specs.declared.chunk_place.ChunkPlace.TheVariants as places
use Rattle.http_talk.specs.Heads.{HeadRead, unfinished, missing, found, head_cause, head_format, framing_of, Framing, in_chunks, to_the_end, of_length, is_long}
use Rattle.http_talk.specs.Chunks.{Chunks, with_bytes, with_byte, no_chunks, place_after, held_after, is_body_end, is_wrong, is_too_much, is_certain}
use Rattle.http_talk.specs.Replies.{Judged, waits, goes_on, decided, refused, whole, judged, head_judged, body_judged, or_waits, chunks_verdict, IsJudged}
use Rattle.http_talk.specs.declared.part.Part.{Part}
use Rattle.http_talk.specs.declared.part.Part.TheVariants as parts
use Rattle.http_talk.specs.ReplyReading.{HasKept, kept_by}
use Rattle.http_talk.specs.Streams.{Streaming, Flows, HasGiven, told_at}
use Rattle.http_talk.proofs.Short.{not_long}

-- a body that is known has at most so many bytes
abbrev pub IsShortBody : ℕ → Judged → Type 0
IsShortBody most (goes_on format body) = length body ≤ most
IsShortBody most (decided (whole format body)) = length body ≤ most
IsShortBody most (decided (refused cause)) = ⊤
IsShortBody most waits = ⊤

-- where nothing is certain, the chunks hold no more
open_held : (most : ℕ) (a b c d : Bool) (held : List ℕ) → b ≡ nat_lt most (length held) → (a || (b || c) || d) ≡ false → length held ≤ most
open_held most true b c d held is e = absurd (cc e)
open_held most false true c d held is e = absurd (cc e)
open_held most false false c d held is e = omega (arith, ltb-false most (length held) (cc is))

no_end : (t : Bool) (left : ℕ) → is_body_end (if t then places.Bytes left else places.BytesEnd) ≡ true → ⊥
no_end true left e = cc e
no_end false left e = cc e

-- a byte of a chunk never ends the body
one_byte : (most : ℕ) (place : ChunkPlace) (held : List ℕ) (b : ℕ) → length held ≤ most → is_body_end (place_after place b) ≡ true → length (held_after place held b) ≤ most
unfolding place_after
one_byte most (places.Bytes left) held b short e = absurd (no_end (nat_lt 1 left) (left - 1) e)
one_byte most _ held b short e = short

-- chunks that came to their end hold no more
held_short : (bytes : List ℕ) (most : ℕ) (c : Chunks) → (is_body_end c.place ≡ true → length c.held ≤ most)
    → is_body_end (with_bytes most c bytes).place ≡ true → length (with_bytes most c bytes).held ≤ most
held_short [] most c x e = x e
held_short (b ∷ bytes) most c x e =
    elim (is_certain most c) as (λ t. is_certain most c ≡ t → is_body_end (if t then c else with_bytes most (with_byte c b) bytes).place ≡ true
    → length (if t then c else with_bytes most (with_byte c b) bytes).held ≤ most) [
      | true ↦ λ yes end. x end
      | false ↦ λ no end. held_short bytes most (with_byte c b)
          (one_byte most c.place c.held b (open_held most (is_body_end c.place) (nat_lt most (length c.held)) (nat_lt (8 * most + 65536) c.got) (is_wrong c.place) c.held refl no)) end
    ] refl e

by_verdict : (most : ℕ) (format : Format) (held : List ℕ) (a m w : Bool) → (a ≡ true → length held ≤ most)
    → IsShortBody most (or_waits (first_some (λ v. v) (when_true a (whole format held) ∷ when_true m (refused causes.TooLong) ∷ when_true w (refused causes.Chunk) ∷ [])))
by_verdict most format held true m w x = x refl
by_verdict most format held false true w x = tt
by_verdict most format held false false true x = tt
by_verdict most format held false false false x = tt

short_chunks : (most : ℕ) (format : Format) (c : Chunks) → (is_body_end c.place ≡ true → length c.held ≤ most) → IsShortBody most (or_waits (chunks_verdict most format c))
unfolding chunks_verdict
short_chunks most format c x = by_verdict most format c.held (is_body_end c.place) (is_too_much most c) (is_wrong c.place) x

short_open : (most : ℕ) (format : Format) (rest : List ℕ) (t : Bool) → nat_lt most (length rest) ≡ t → IsShortBody most (if t then decided (refused causes.TooLong) else goes_on format rest)
short_open most format rest true is = tt
short_open most format rest false is = omega (arith, ltb-false most (length rest) is)

short_sized : (most n : ℕ) (format : Format) (rest : List ℕ) (t : Bool) → nat_lt most n ≡ false → IsShortBody most (if t then decided (whole format (take n rest)) else waits)
short_sized most n format rest true fits = omega (arith, ltb-false most n fits, length-take n rest)
short_sized most n format rest false fits = tt

short_by_framing : (most head : ℕ) (framing : Framing) (format : Format) (rest : List ℕ) → is_long most framing ≡ false → IsShortBody most (body_judged most head framing format rest)
unfolding body_judged
short_by_framing most head in_chunks format rest fits =
    short_chunks most format (with_bytes most (no_chunks head) rest) (held_short rest most (no_chunks head) (λ e. omega arith))
short_by_framing most head to_the_end format rest fits = short_open most format rest (nat_lt most (length rest)) refl
short_by_framing most head (of_length n) format rest fits = short_sized most n format rest (nat_le n (length rest)) fits

short_behind : (most : ℕ) (h : ResponseHead) (rest : List ℕ) (cause : Option Cause) (format : Option Format) → head_cause most h ≡ cause → IsShortBody most (head_judged most h rest cause format)
short_behind most h rest (Some c) format is = tt
short_behind most h rest None None is = tt
short_behind most h rest None (Some format) is = short_by_framing most (length (print_response h)) (framing_of h) format rest (not_long most h is)

short_read : (most : ℕ) (head : HeadRead) → IsShortBody most (judged most head)
unfolding judged
short_read most unfinished = tt
short_read most missing = tt
short_read most (found h rest) = short_behind most h rest (head_cause most h) (head_format h) refl

pub body_is_short : (most : ℕ) (got : List ℕ) (known : Judged) → IsJudged most got known → IsShortBody most known
body_is_short most got known x = subst (IsShortBody most) (sym x.known_is) (short_read most x.head)

given_short : (part : Part) (most : ℕ) (fed : List ℕ) (format : Format) (kept given : List ℕ) (got : ℕ) → HasKept part most fed format (kept_by part kept given) got → HasGiven most fed (told_at part format) given → length given ≤ most
given_short parts.Head most fed format kept given got k g = omega (arith, ap (length {A = ℕ}) g.0)
given_short (parts.Sized n) most fed format kept given got k g =
    let fits : is_long most (of_length n) ≡ false = subst (λ f. is_long most f ≡ false) k.0.framing_is (not_long most k.0.head k.0.taken) in
    omega (arith, k.2, ltb-false most n fits)
given_short parts.Open most fed format kept given got k g = k.2
given_short (parts.Chunked place) most fed format kept given got k g =
    open_held most (is_body_end place) (nat_lt most (length given)) (nat_lt (8 * most + 65536) got) (is_wrong place) given refl k.2
given_short parts.Whole most fed format kept given got k g = body_is_short most fed (decided (whole format given)) k

-- what a stream gave of a body has at most so many bytes
pub flows_short : (fed given : List ℕ) (s : Streaming) → Flows fed given s → length given ≤ s.most
flows_short fed given s f = given_short s.part s.most fed s.format s.kept given s.got f.stands.keeps f.gave
