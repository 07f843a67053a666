-- How many digits a number has.
use Rattle.std.proofs.Common.{◌≡◌, ℕ, ◌+◌, ◌*◌, ◌^◌, ◌<◌, ◌≤◌, inl, inr, length, ap, arith}
use Rattle.std.specs.Fmt.{decimal}
use Rattle.std.proofs.Math.Nat.{pow-le-pow_right}
use Rattle.std.proofs.lemmas.Fmt.{decimal_digit, decimal_is_IsNumeral, length-decimal-le}
use Rattle.std.proofs.lemmas.Int.Digits.{digits_value-lt}
use Rattle.std.proofs.lemmas.Bool.{cases_lt}
use Rattle.std.proofs.lemmas.Grind.{pow_more}
use Rattle.std.specs.Str.Parse.{digits_value}

-- 0 is one digit
pub length_decimal_zero : length (decimal 0) ≡ 1
length_decimal_zero = ap length (decimal_digit 0 (omega arith))

-- a number from a power of ten up to the next has one digit more than the power
pub length_decimal : (n k : ℕ) → n < 2 ^ 64 → 10 ^ k ≤ n → n < 10 * 10 ^ k → length (decimal n) ≡ k + 1
length_decimal n k fits low high =
    let digits = decimal_is_IsNumeral n fits in
    let below : digits_value 10 (decimal n) < 10 ^ length (decimal n) = digits_value-lt 10 (decimal n) digits.0.1 in
    let most : length (decimal n) ≤ k + 1 = length-decimal-le (k + 1) n (omega arith) (omega (arith, pow_more 10 k)) fits in
    elim (cases_lt k (length (decimal n))) [
      | inl more ↦ omega arith
      | inr few ↦ absurd (omega (arith, pow-le-pow_right {n = 10} (omega arith) few, below, digits.1))
    ]
