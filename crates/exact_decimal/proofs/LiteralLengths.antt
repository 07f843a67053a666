-- How long the pieces of a literal are, exactly.
use Rattle.std.proofs.Common.{◌≡◌, ℕ, ◌+◌, ◌-◌, ◌*◌, ◌^◌, ◌<◌, ◌≤◌, List, length, ap, arith, length-append}
use Rattle.std.proofs.lemmas.Grind.{common_steps, pow_more}
use Rattle.std.proofs.lemmas.List.{length-replicate}
use Rattle.std.proofs.lemmas.Fmt.{decimal_digit}
use Rattle.std.specs.Fmt.{decimal}
use Rattle.exact_decimal.specs.Literals.{pointed, plain_text}
use Rattle.exact_decimal.proofs.Powers.{one_le_ten}
use Rattle.exact_decimal.proofs.Tens.{below_from_powers, no_up}
use Rattle.exact_decimal.proofs.Texts.{pointed_whole, pointed_within, plain_long, plain_short, places_of}

-- 0 is one digit
pub length_decimal_zero : length (decimal 0) ≡ 1
length_decimal_zero = ap length (decimal_digit 0 (omega arith))

-- a number from a power of ten up to the next has one digit more than the power
pub length_decimal : (n k : ℕ) → n < 2 ^ 128 → 10 ^ k ≤ n → n < 10 * 10 ^ k → length (decimal n) ≡ k + 1
length_decimal n k fits low high =
    let p = places_of n (omega arith) in
    let places : ℕ = length (decimal n) in
    let one : 1 ≤ 10 ^ k = one_le_ten k in
    let least : 10 ^ (places - 1) ≤ n = p.low (λ z. omega arith) in
    let next : 10 ^ (k + 1) ≡ 10 ^ k * 10 = omega (arith, pow_more 10 k) in
    let more : k < places = below_from_powers k places (omega (arith, p.high)) in
    let most : places - 1 < k + 1 = below_from_powers (places - 1) (k + 1) (omega arith) in
    omega (arith, p.some)

-- no point is written behind all digits
pub length_pointed_whole : (digits : List ℕ) (places before : ℕ) → length digits ≡ places → places ≤ before → length (pointed digits before) ≡ places
length_pointed_whole digits places before e h = rw (pointed_whole digits before (omega arith)) e

-- a point between the digits is one byte
pub length_pointed_within : (digits : List ℕ) (places before : ℕ) → length digits ≡ places → before < places → length (pointed digits before) ≡ places + 1
length_pointed_within digits places before e h = rw (pointed_within digits before (omega arith)) (grind (arith, common_steps))

-- a plain literal with digits before the point
pub length_plain_long : (digits : List ℕ) (places up down pointed_places : ℕ) → up * down ≡ 0 → length digits ≡ places → down < places → pointed_places ≡ length (pointed digits (places - down)) → pointed_places + up ≡ length (plain_text digits up down)
length_plain_long digits places up down n one e h is =
    rw (plain_long digits up down one (omega arith), length-append, e, is, length-replicate) (omega arith)

-- a plain literal whose digits all stand behind the point
pub length_plain_short : (digits : List ℕ) (places up down : ℕ) → up * down ≡ 0 → length digits ≡ places → 0 < places → places ≤ down → 2 + down ≡ length (plain_text digits up down)
length_plain_short digits places up down one e some h =
    rw (plain_short digits up down (no_up up down places one some h) (omega arith) (omega arith)) (simp (length-append, length-replicate) (omega arith))
