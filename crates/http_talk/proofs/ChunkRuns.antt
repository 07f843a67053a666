-- Steps over the bytes of a body in chunks.
use Rattle.std.proofs.Common.{◌≡◌, ℕ, ◌+◌, ◌-◌, ◌*◌, ◌^◌, ◌≤◌, ◌<◌, true, false, List, [], ◌∷◌, ◌++◌, length, take, refl, sym, ap, ◌∙◌, arith, append_assoc, append-nil}
use Rattle.std.specs.Prelude.{zero, suc, nat_lt, if◌then◌else◌}
use Rattle.std.proofs.Math.Nat.{pow-le-pow_right}
use Rattle.std.proofs.lemmas.Grind.{pow_more}
use Rattle.std.proofs.lemmas.Bool.{lt-ltb, le-ltb, ltb-true, ltb-false}
use Rattle.std.proofs.lemmas.List.{length-append}
use Rattle.http_talk.specs.declared.chunk_place.ChunkPlace.{ChunkPlace}
use Rattle.http_talk.specs.declared.chunk_place.ChunkPlace.TheVariants.{Bytes, BytesEnd}
use Rattle.http_talk.specs.Chunks.{Chunks, place_after, with_bytes, is_certain}
use Rattle.http_talk.specs.ChunkFeeding.{behind_bytes}

-- one more digit fits
pub hex_room : (count size digit : ℕ) → count < 8 → size < 16 ^ count → digit < 16 → (size * 16 + digit < 16 ^ (count + 1)) × (size * 16 + digit < 2 ^ 32)
hex_room count size digit few small hex =
    let more : 16 ^ (count + 1) ≡ 16 ^ count * 16 = pow_more 16 count in
    let most : 16 ^ (count + 1) ≤ 16 ^ 8 = pow-le-pow_right {n = 16} (omega arith) {i = count + 1} {j = 8} (omega (arith, few)) in
    (omega (arith, more, small, hex), omega (arith, more, most, small, hex))

-- where a chunk goes on and nothing is too much, nothing is certain
uncertain : (most left got : ℕ) (held : List ℕ) → length held ≤ most → got ≤ 8 * most + 65536
    → is_certain most (record { place = Bytes left; held = held; got = got }) ≡ false
uncertain most left got held few short = rw (le-ltb most (length held) few, le-ltb (8 * most + 65536) got short) refl

same_chunks : (p q : ChunkPlace) (xs ys : List ℕ) (m n : ℕ) → p ≡ q → xs ≡ ys → m ≡ n
    → (let a : Chunks = record { place = p; held = xs; got = m } in a) ≡ (let b : Chunks = record { place = q; held = ys; got = n } in b)
same_chunks p q xs ys m n e f g = cc (e, f, g)

behind_step : (left count : ℕ) → 1 < left → behind_bytes (left - 1) count ≡ behind_bytes left (suc count)
behind_step left count some =
    elim (nat_lt count (left - 1)) as (λ t. nat_lt count (left - 1) ≡ t → (if t then Bytes (left - 1 - count) else BytesEnd) ≡ behind_bytes left (suc count)) [
      | true ↦ λ yes. rw (lt-ltb (suc count) left (omega (arith, some, ltb-true count (left - 1) yes))) (bytes_of _ _ (omega arith))
      | false ↦ λ no. rw (le-ltb (suc count) left (omega (arith, some, ltb-false count (left - 1) no))) refl
    ] refl
  where
    bytes_of : (m n : ℕ) → m ≡ n → Bytes m ≡ Bytes n
    bytes_of m n e = ap Bytes e

-- some bytes of a chunk at once
pub run : (piece : List ℕ) (count most left got : ℕ) (held : List ℕ) → 0 < left → count ≤ left → count ≤ length piece → length held + count ≤ most + 1 → got + count ≤ 8 * most + 65537
    → with_bytes most (record { place = Bytes left; held = held; got = got }) (take count piece) ≡ record { place = behind_bytes left count; held = held ++ take count piece; got = got + count }
unfolding place_after
run piece zero most left got held some few in_piece fits short =
    let place : Bytes left ≡ behind_bytes left 0 = rw (lt-ltb 0 left some) (let e : left ≡ left - 0 = omega arith in ap Bytes e) in
    let count : got ≡ got + 0 = omega arith in
    same_chunks _ _ _ _ _ _ place (sym (append-nil held)) count
run [] (suc count) most left got held some few in_piece fits short = absurd (omega (arith, in_piece))
run (b ∷ piece) (suc zero) most left got held some few in_piece fits short = rw (uncertain most left got held (omega (arith, fits)) (omega (arith, short))) refl
run (b ∷ piece) (suc (suc count)) most left got held some few in_piece fits short =
    let many : 1 < left = omega (arith, few) in
    let rest = run piece (suc count) most (left - 1) (got + 1) (held ++ b ∷ []) (omega (arith, many)) (omega (arith, few)) (omega (arith, in_piece))
    (omega (arith, fits, length-append held (b ∷ []))) (omega (arith, short)) in
    let taken : got + 1 + suc count ≡ got + suc (suc count) = omega arith in
    rw (uncertain most left got held (omega (arith, fits)) (omega (arith, short)), lt-ltb 1 left many)
    (rest ∙ same_chunks _ _ _ _ _ _ (behind_step left (suc count) many) (append_assoc held (b ∷ []) (take (suc count) piece)) taken)
