-- Whole numbers below 2 ^ 64, and their digits.
use Rattle.std.proofs.Common.{◌≡◌, ◌≢◌, ℕ, ◌+◌, ◌*◌, ◌/◌, ◌^◌, ◌%◌, ◌<◌, ◌≤◌, Bool, List, Ok, sym, ap, ◌∙◌, arith, lit≤}
use Rattle.std.specs.Fmt.{decimal}
use Rattle.std.specs.Str.Parse.{digits_value}
use Rattle.std.proofs.lemmas.Fmt.{decimal_is_IsNumeral}
use Rattle.exact_decimal.specs.declared.number.Number.TheVariants.{Finite}
use Rattle.exact_decimal.specs.Decimals.{IsNormal}
use Rattle.exact_decimal.specs.Scans.{AreDigits, within_limits}
use Rattle.exact_decimal.proofs.Powers.{times_zeros}
use Rattle.exact_decimal.proofs.OneForm.{form, normal, limited, short_keeps}
use Rattle.exact_decimal.proofs.Kept.{digits_from}

-- ---- zeros at the end are divided off

pub tenth : (n z v : ℕ) → n * 10 ^ z ≡ v → n % 10 ≡ 0 → n / 10 * 10 ^ (z + 1) ≡ v
tenth n z v h e =
    let whole : n ≡ n / 10 * 10 = omega arith in
    let one : 1 + z ≡ z + 1 = omega arith in
    ap (λ x. n / 10 * 10 ^ x) (sym one) ∙ sym (times_zeros (n / 10) 1 z) ∙ ap (λ x. x * 10 ^ z) (sym whole) ∙ h

-- ---- the digits of a whole number

pub decimal_digits : (n : ℕ) → n < 2 ^ 64 → AreDigits (decimal n)
decimal_digits n h = digits_from (decimal n) (decimal_is_IsNumeral n h).0.1

pub decimal_value : (n : ℕ) → n < 2 ^ 64 → digits_value 10 (decimal n) ≡ n
decimal_value n h = (decimal_is_IsNumeral n h).1

-- ---- a whole number without the zeros at its end

module _ (value n z : ℕ) (small : value < 2 ^ 64) (split : n * 10 ^ z ≡ value) (last : n % 10 ≢ 0) where
  below : value < 10 ^ 20
  below = let room : 2 ^ 64 ≤ 10 ^ 20 = lit≤ tt in omega arith

  pub short_normal : (negative : Bool) (up down : ℕ) → up ≤ 200 → down ≤ 400 → IsNormal (form negative n (up + z) down)
  short_normal negative up down u d =
      let k = short_keeps (decimal value) value n z (decimal_digits value small) (decimal_value value small) split last below in
      normal negative n z k.0 up down k.1 (k.3.low k.1) k.3.high (k.3.last k.1)
      (record { few = omega (arith, k.2); low = omega (arith, k.1); high = omega (arith, k.2) })

  pub short_zeros : z < 20
  short_zeros =
      let k = short_keeps (decimal value) value n z (decimal_digits value small) (decimal_value value small) split last below in
      omega (arith, k.1, k.2)

  pub short_limited : (negative : Bool) (up down : ℕ) → up ≤ 200 → down ≤ 400 → (ds : List ℕ) → AreDigits ds → digits_value 10 ds ≡ value → within_limits negative ds up down ≡ Ok (Finite (form negative n (up + z) down))
  short_limited negative up down u d ds h e =
      let k = short_keeps ds value n z h e split last below in
      limited negative ds up down n z k.0 k.3 k.1
      (record { few = omega (arith, k.2); low = omega (arith, k.1); high = omega (arith, k.2) })
