-- Steps over the bytes of a body in chunks, whose bytes are counted.
use Rattle.std.proofs.Common.{◌≡◌, ℕ, ◌+◌, ◌-◌, ◌*◌, ◌≤◌, ◌<◌, Bool, true, false, List, [], ◌∷◌, ◌++◌, length, take, drop, refl, sym, ap, ◌∙◌, arith, append-nil, subst, inl, inr}
use Rattle.std.specs.Prelude.{◌⊎◌, ◌||◌, zero, suc, nat_lt, slice_range, if◌then◌else◌}
use Rattle.std.proofs.lemmas.Bool.{ltb-false, ltb-true, lt-ltb}
use Rattle.std.proofs.lemmas.List.{length-append, length-drop, length-take, take_all}
use Rattle.std.proofs.Math.Seq.{take-add}
use Rattle.http_talk.specs.declared.chunk_place.ChunkPlace.{ChunkPlace}
use Rattle.http_talk.specs.declared.chunk_place.ChunkPlace.TheVariants as places
use Rattle.http_talk.specs.Chunks.{Chunks, place_after, held_after, with_bytes, is_body_end, is_wrong}
use Rattle.http_talk.specs.ChunkFeeding.{Counted, holding, is_in_chunk, is_over, TakesChunks, SkipsTo, TakesRun, TakesFront, behind_bytes}
use Rattle.http_talk.proofs.GoesOn.{with_bytes-append}
use Rattle.http_talk.proofs.ChunkRuns.{run}
use Rattle.http_talk.proofs.StreamSteps.{over_same}

abbrev pub counted : ChunkPlace → ℕ → ℕ → Counted
counted place body got = record { place = place; body = body; got = got }

-- no byte was taken
pub took_nothing : (most : ℕ) (c : Counted) → TakesChunks most c c [] []
took_nothing most c = λ held e. (rw (append-nil held) e, ap (λ xs. holding c xs) (append-nil held))

-- a byte between chunks is none of their bytes
held_between : (place : ChunkPlace) (held : List ℕ) (b : ℕ) → is_in_chunk place ≡ false → held_after place held b ≡ held
held_between (places.Bytes left) held b e = absurd (cc e)
held_between _ held b e = refl

between : (most : ℕ) (c : Counted) (held : List ℕ) (b : ℕ) → c.body ≡ length held → is_over most c ≡ false → is_in_chunk c.place ≡ false
    → holding (counted (place_after c.place b) c.body (c.got + 1)) held ≡ with_bytes most (holding c held) (b ∷ [])
between most c held b e going out =
    rw (sym (over_same most c held e) ∙ going)
    (ap (λ xs. (let a : Chunks = record { place = place_after c.place b; held = xs; got = c.got + 1 } in a)) (sym (held_between c.place held b out)))

-- one byte more in front of a chunk's
pub took_one : (most : ℕ) (start now : Counted) (bytes : List ℕ) (b : ℕ) → TakesChunks most start now bytes [] → is_over most now ≡ false → is_in_chunk now.place ≡ false
    → TakesChunks most start (counted (place_after now.place b) now.body (now.got + 1)) (bytes ++ b ∷ []) []
took_one most start now bytes b t going out = λ held e.
    let x = t held e in
    (x.0, between most now (held ++ []) b x.0 going out ∙ ap (λ c. with_bytes most c (b ∷ [])) x.1 ∙ sym (with_bytes-append most (holding start held) bytes (b ∷ [])))

-- where nothing is certain, there is room for a byte more
pub going_room : (most : ℕ) (c : Counted) → is_over most c ≡ false → (c.body ≤ most) × (c.got ≤ 8 * most + 65536)
going_room most c going =
    let parts = tests (is_body_end c.place) (nat_lt most c.body) (nat_lt (8 * most + 65536) c.got) (is_wrong c.place) going in
    (ltb-false most c.body parts.0, ltb-false (8 * most + 65536) c.got parts.1)
  where
    tests : (a b d w : Bool) → (a || (b || d) || w) ≡ false → (b ≡ false) × (d ≡ false)
    tests true b d w e = absurd (cc e)
    tests false true d w e = absurd (cc e)
    tests false false true w e = absurd (cc e)
    tests false false false w e = (refl, refl)

behind_open : (left count : ℕ) → is_body_end (behind_bytes left count) ≡ false
behind_open left count = elim (nat_lt count left) as (λ t. is_body_end (if t then places.Bytes (left - count) else places.BytesEnd) ≡ false) [
  | true ↦ refl
  | false ↦ refl
]

same_counted : (p q : ChunkPlace) (m n i j : ℕ) → p ≡ q → m ≡ n → i ≡ j → counted p m i ≡ counted q n j
same_counted p q m n i j e f g = cc (e, f, g)

run_stays : (left count got body : ℕ) (place behind : ChunkPlace) → place ≡ places.Bytes left → 0 < left → behind ≡ behind_bytes left count → count ≡ 0 → counted behind (body + count) (got + count) ≡ counted place body got
run_stays left count got body place behind at some so none =
    let here : behind_bytes left 0 ≡ places.Bytes left = rw (lt-ltb 0 left some) (let e : left - 0 ≡ left = omega arith in ap places.Bytes e) in
    same_counted behind place (body + count) body (got + count) got (so ∙ ap (behind_bytes left) none ∙ here ∙ sym at) (omega (arith, none)) (omega (arith, none))

-- bytes of a chunk are taken
pub took_run : (most left count got body : ℕ) (place behind : ChunkPlace) (piece : List ℕ) → place ≡ places.Bytes left → 0 < left → count ≤ left → count ≤ length piece → body + count ≤ most + 1 → got + count ≤ 8 * most + 65537
    → (0 < length piece → 0 < count) → behind ≡ behind_bytes left count
    → TakesRun most (counted place body got) (counted behind (body + count) (got + count)) piece count
took_run most left count got body place behind piece at some in_left in_piece fits total goes so = record {
  within = in_piece;
  took = λ held e.
      let one : holding (counted behind (body + count) (got + count)) (held ++ take count piece) ≡ with_bytes most (record { place = places.Bytes left; held = held; got = got }) (take count piece) =
      ap (λ p. (let a : Chunks = record { place = p; held = held ++ take count piece; got = got + count } in a)) so
      ∙ sym (run piece count most left got held some in_left in_piece (omega (arith, fits, e)) total) in (
        omega (arith, e, length-append held (take count piece), length-take count piece, in_piece),
        one ∙ ap (λ p. with_bytes most (let a : Chunks = record { place = p; held = held; got = got } in a) (take count piece)) (sym at),
      );
  some = λ long going inside. goes long;
  goes_on = λ more. ap is_body_end so ∙ behind_open left count;
  stays = run_stays left count got body place behind at some so;
}

-- nothing is taken of a chunk where none goes on
pub took_none : (most : ℕ) (c : Counted) (piece : List ℕ) → (0 < length piece → is_over most c ≡ false → is_in_chunk c.place ≡ true → ⊥) → TakesRun most c c piece 0
took_none most c piece none = record {
  within = omega arith;
  took = took_nothing most c;
  some = λ long going inside. absurd (none long going inside);
  goes_on = λ more. absurd (omega (arith, more));
  stays = λ e. refl;
}

none_taken : (from count : ℕ) → (0 < count → ⊥) → from ≡ from + count
none_taken from zero none = omega arith
none_taken from (suc count) none = absurd (none (omega arith))

all_used : (from count n : ℕ) → count ≡ 0 → from ≤ n → (from < n → ⊥) → from + count ≡ n
all_used from count n none within never =
    elim (nat_lt from n) as (λ t. nat_lt from n ≡ t → from + count ≡ n) [
      | true ↦ λ yes. absurd (never (ltb-true from n yes))
      | false ↦ λ past. omega (arith, none, within, ltb-false from n past)
    ] refl

by_stop : {b c : Bool} → (b ≡ true) ⊎ (c ≡ true) → b ≡ false → (c ≡ true → ⊥) → ⊥
by_stop (inl over) going never = cc (sym over ∙ going)
by_stop (inr inside) going never = never inside

-- what stands in front of a chunk's bytes, and some of these
pub took_front : (most : ℕ) (old mid new : Counted) (piece rest : List ℕ) (from count : ℕ) → rest ≡ take (length piece - from) (drop from piece) → SkipsTo most old mid piece from → TakesRun most mid new rest count
    → TakesFront most old new piece from (from + count)
took_front most old mid new piece rest from count is s r =
    let all : rest ≡ drop from piece = is ∙ take_all (length piece - from) (drop from piece) (omega (arith, length-drop from piece)) in
    let slice : slice_range piece from (from + count) ≡ take count rest = ap (λ n. take n (drop from piece)) (let more : from + count - from ≡ count = omega arith in more) ∙ ap (λ xs. take count xs) (sym all) in
    let bytes : take (from + count) piece ≡ take from piece ++ take count rest = take-add from count piece ∙ ap (λ xs. take from piece ++ take count xs) (sym all) in
    record {
      order = omega arith;
      within = omega (arith, s.within, r.within, ap (length {A = ℕ}) all, length-drop from piece);
      took = λ held e.
          let a = s.took held e in
          let b = r.took (held ++ []) a.0 in
          let given : (held ++ []) ++ take count rest ≡ held ++ slice_range piece from (from + count) = ap (λ xs. xs ++ take count rest) (append-nil held) ∙ ap (λ xs. held ++ xs) (sym slice) in (
            b.0 ∙ ap (length {A = ℕ}) given,
            ap (λ xs. holding new xs) (sym given) ∙ b.1 ∙ ap (λ c. with_bytes most c (take count rest)) a.1
                ∙ sym (with_bytes-append most (holding old held) (take from piece) (take count rest)) ∙ ap (λ xs. with_bytes most (holding old held) xs) (sym bytes),
          );
      whole = λ end. none_taken from count (λ some. cc (sym end ∙ r.goes_on some));
      used = λ none going.
          let nil : count ≡ 0 = omega (arith, none) in
          let same = r.stays nil in
          all_used from count (length piece) nil s.within (λ more. by_stop (s.stops more) (subst (λ c. is_over most c ≡ false) same going)
          (λ inside. omega (arith, nil, r.some (omega (arith, more, ap (length {A = ℕ}) all, length-drop from piece)) (subst (λ c. is_over most c ≡ false) same going) inside)));
    }
