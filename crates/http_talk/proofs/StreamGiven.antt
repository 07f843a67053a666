-- What a stream gave of a body, and what its end is.
use Rattle.std.proofs.Common.{◌≡◌, ℕ, Bool, true, false, List, [], ◌∷◌, length, take, refl, sym, ap, ◌∙◌, subst, arith, Option, Some, None, inl, inr}
use Rattle.std.specs.Prelude.{◌≢◌, ◌⊎◌, nat_lt, nat_le, if◌then◌else◌, Ok}
use Rattle.std.proofs.lemmas.List.{take_all}
use Rattle.httparse.specs.Grammar.{ResponseHead, print_response}
use Rattle.label_sets.specs.Lists.{first_some, when_true}
use Rattle.page_model.specs.declared.format.Format.{Format}
use Rattle.page_model.specs.declared.event.Cause.{Cause}
use Rattle.page_model.specs.declared.event.Cause.TheVariants as causes
use Rattle.http_talk.specs.declared.part.Part.{Part}
use Rattle.http_talk.specs.declared.part.Part.TheVariants as parts
use Rattle.http_talk.specs.declared.fault.Progress.TheVariants as progresses
use Rattle.http_talk.specs.declared.fault.ReplyFault.{ReplyFault}
use Rattle.http_talk.specs.Heads.{HeadRead, unfinished, missing, found, HeadIs, head_cause, head_format, framing_of, Framing, in_chunks, to_the_end, of_length}
use Rattle.http_talk.specs.Chunks.{Chunks, no_chunks, with_bytes, is_body_end, is_too_much, is_wrong}
use Rattle.http_talk.specs.Replies.{Judged, waits, goes_on, decided, refused, whole, judged, head_judged, body_judged, or_waits, chunks_verdict, IsJudged, HasVerdict, is_decided}
use Rattle.http_talk.specs.ReplyReading.{HasBody, HasKept, Stands, kept_by, progress_of}
use Rattle.http_talk.specs.Streams.{Streaming, told_at, told_of_head, body_front, HasGiven, reader_with, Flows, StreamEnd}
use Rattle.http_talk.proofs.Once.{known_once}
use Rattle.http_talk.proofs.ReplySteps.{end_waits, end_open, new_stands}

abbrev pub streaming : ℕ → Part → Format → List ℕ → ℕ → ℕ → Option ReplyFault → Streaming
streaming most part format kept body got stopped = record { most = most; part = part; format = format; kept = kept; body = body; got = got; stopped = stopped }

-- ---- what was given

chunks_gave : (a b w : Bool) (format f : Format) (given held : List ℕ) → decided (whole format given) ≡ or_waits (first_some (λ v. v) (when_true a (whole f held) ∷ when_true b (refused causes.TooLong) ∷ when_true w (refused causes.Chunk) ∷ []))
    → (format ≡ f) × (given ≡ held)
chunks_gave true b w format f given held e = (cc e, cc e)
chunks_gave false true w format f given held e = absurd (cc e)
chunks_gave false false true format f given held e = absurd (cc e)
chunks_gave false false false format f given held e = absurd (cc e)

body_gave : (framing : Framing) (most head : ℕ) (format f : Format) (given rest : List ℕ) → decided (whole format given) ≡ body_judged most head framing f rest → (format ≡ f) × (given ≡ body_front most head framing rest)
unfolding body_judged chunks_verdict
body_gave in_chunks most head format f given rest e =
    let c = with_bytes most (no_chunks head) rest in
    chunks_gave (is_body_end c.place) (is_too_much most c) (is_wrong c.place) format f given c.held e
body_gave to_the_end most head format f given rest e =
    elim (nat_lt most (length rest)) as (λ t. decided (whole format given) ≡ (if t then decided (refused causes.TooLong) else goes_on f rest) → (format ≡ f) × (given ≡ rest)) [
      | true ↦ λ same. absurd (cc same)
      | false ↦ λ same. absurd (cc same)
    ] e
body_gave (of_length n) most head format f given rest e =
    elim (nat_le n (length rest)) as (λ t. decided (whole format given) ≡ (if t then decided (whole f (take n rest)) else waits) → (format ≡ f) × (given ≡ take n rest)) [
      | true ↦ λ same. (cc same, cc same)
      | false ↦ λ same. absurd (cc same)
    ] e

head_gave : (most : ℕ) (fed : List ℕ) (format : Format) (given : List ℕ) (h : ResponseHead) (rest : List ℕ) (cause : Option Cause) (f : Option Format) → HeadIs fed (found h rest)
    → head_cause most h ≡ cause → head_format h ≡ f → decided (whole format given) ≡ head_judged most h rest cause f → HasGiven most fed (Some format) given
head_gave most fed format given h rest (Some cause) f at caused formed e = absurd (cc e)
head_gave most fed format given h rest None None at caused formed e = absurd (cc e)
head_gave most fed format given h rest None (Some f) at caused formed e =
    let same = body_gave (framing_of h) most (length (print_response h)) format f given rest e in
    let b : HasBody most fed format (framing_of h) = record { head = h; rest = rest; head_is = at; taken = caused; format_is = formed ∙ ap (λ x. Some x) (sym same.0); framing_is = refl } in
    (framing_of h, b, same.1)

read_gave : (head : HeadRead) (most : ℕ) (fed : List ℕ) (format : Format) (given : List ℕ) → HeadIs fed head → decided (whole format given) ≡ judged most head → HasGiven most fed (Some format) given
unfolding judged
read_gave unfinished most fed format given at e = absurd (cc e)
read_gave missing most fed format given at e = absurd (cc e)
read_gave (found h rest) most fed format given at e = head_gave most fed format given h rest (head_cause most h) (head_format h) at refl refl e

gave_by : (part : Part) (most : ℕ) (fed : List ℕ) (format : Format) (kept given : List ℕ) (got : ℕ) → HasKept part most fed format (kept_by part kept given) got → (part ≡ parts.Head → given ≡ []) → HasGiven most fed (told_at part format) given
gave_by parts.Head most fed format kept given got k none = (none refl, k.1)
gave_by (parts.Sized n) most fed format kept given got k none = (of_length n, k.0, k.1 ∙ sym (take_all n k.0.rest (omega (arith, k.2, ap (length {A = ℕ}) k.1))))
gave_by parts.Open most fed format kept given got k none = (to_the_end, k.0, k.1)
gave_by (parts.Chunked place) most fed format kept given got k none = (in_chunks, k.0, ap (λ (c : Chunks). c.held) k.1)
gave_by parts.Whole most fed format kept given got k none = read_gave k.head most fed format given k.head_is k.known_is

unrefused_by : (part : Part) (most : ℕ) (fed : List ℕ) (format : Format) (kept : List ℕ) (got : ℕ) → HasKept part most fed format kept got → (cause : Cause) → HasVerdict most fed (refused cause) → ⊥
unrefused_by parts.Open most fed format kept got k cause v = cc (known_once most fed (goes_on format kept) (decided (refused cause)) (end_open most fed format kept got k) v)
unrefused_by parts.Whole most fed format kept got k cause v = cc (known_once most fed (decided (whole format kept)) (decided (refused cause)) k v)
unrefused_by parts.Head most fed format kept got k cause v = cc (known_once most fed waits (decided (refused cause)) (end_waits most parts.Head fed format kept got (λ e. cc e) (λ e. cc e) k) v)
unrefused_by (parts.Sized n) most fed format kept got k cause v = cc (known_once most fed waits (decided (refused cause)) (end_waits most (parts.Sized n) fed format kept got (λ e. cc e) (λ e. cc e) k) v)
unrefused_by (parts.Chunked place) most fed format kept got k cause v = cc (known_once most fed waits (decided (refused cause)) (end_waits most (parts.Chunked place) fed format kept got (λ e. cc e) (λ e. cc e) k) v)

pub flows_by : (fed given : List ℕ) (s : Streaming) → Stands fed (reader_with s given) → (s.part ≡ parts.Head → given ≡ []) → s.body ≡ length given → Flows fed given s
flows_by fed given s x none count = record {
  gave = gave_by s.part s.most fed s.format s.kept given s.got x.keeps none;
  unrefused = unrefused_by s.part s.most fed s.format (kept_by s.part s.kept given) s.got x.keeps;
  count = count;
  stands = x;
}

pub new_flows : (most : ℕ) (format : Format) (kept : List ℕ) (got : ℕ) → kept ≡ [] → Flows [] [] (streaming most parts.Head format kept 0 got None)
new_flows most format kept got none = flows_by [] [] (streaming most parts.Head format kept 0 got None) (new_stands most format kept got none) (λ e. refl) refl

pub still_open : (known : Judged) → progresses.More ≡ progress_of known → is_decided known ≡ false
still_open (decided v) e = absurd (cc e)
still_open waits e = refl
still_open (goes_on format body) e = refl

-- ---- the end

end_of : (part : Part) (most : ℕ) (fed given : List ℕ) (format : Format) (kept : List ℕ) (got : ℕ) → (part ≡ parts.Open) ⊎ (part ≡ parts.Whole) → HasKept part most fed format (kept_by part kept given) got → StreamEnd most fed (told_at part format) given (Ok tt)
end_of part most fed given format kept got (inl is) k =
    subst (λ p. StreamEnd most fed (told_at p format) given (Ok tt)) (sym is) (inr (end_open most fed format given got (subst (λ p. HasKept p most fed format (kept_by p kept given) got) is k)))
end_of part most fed given format kept got (inr is) k =
    subst (λ p. StreamEnd most fed (told_at p format) given (Ok tt)) (sym is) (inl (subst (λ p. HasKept p most fed format (kept_by p kept given) got) is k))

pub ends_well : (s : Streaming) (fed given : List ℕ) → (s.part ≡ parts.Open) ⊎ (s.part ≡ parts.Whole) → Flows fed given s → StreamEnd s.most fed (told_of_head s) given (Ok tt)
ends_well s fed given is f = end_of s.part s.most fed given s.format s.kept s.got is f.stands.keeps

pub part_of : (a b : Part) → a ≡ b → (a ≡ parts.Open) ⊎ (a ≡ parts.Whole) → (b ≡ parts.Open) ⊎ (b ≡ parts.Whole)
part_of a b same is = subst (λ p. (p ≡ parts.Open) ⊎ (p ≡ parts.Whole)) same is

pub waits_of : (s : Streaming) (fed given : List ℕ) → s.part ≢ parts.Open → s.part ≢ parts.Whole → Flows fed given s → IsJudged s.most fed waits
waits_of s fed given a b f = end_waits s.most s.part fed s.format (kept_by s.part s.kept given) s.got a b f.stands.keeps
