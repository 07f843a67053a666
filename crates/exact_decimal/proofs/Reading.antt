-- What a token is read as, by its parts.
use Rattle.std.proofs.Common.{◌≡◌, ℕ, ◌+◌, ◌^◌, ◌<◌, ◌≤◌, min, Bool, true, false, cond, leb, ◌⊎◌, List, ◌++◌, length, Ok, Err, refl, sym, ap, ◌∙◌, subst, inl, inr, arith}
use Rattle.std.specs.Fmt.{decimal}
use Rattle.std.specs.Str.Parse.{digits_value}
use Rattle.std.proofs.lemmas.Bool.{le-leb, lt-leb, and_left, cases_eq, cases_lt, cases_Bool}
use Rattle.std.proofs.lemmas.List.{length-append}
use Rattle.exact_decimal.specs.declared.number.Number.TheVariants.{Finite}
use Rattle.exact_decimal.specs.declared.number.NumberFault.TheVariants as faults
use Rattle.exact_decimal.specs.Decimals.{DecimalValue}
use Rattle.exact_decimal.specs.Tokens.{has_minus, whole_part, fraction_part, digits_part, exponent_part, is_real, multiplies_by, divides_by, power_up, power_down, one_form, is_within, decimal_of, is_in_limits}
use Rattle.exact_decimal.specs.Numbers.{number_read, number_of}
use Rattle.exact_decimal.specs.Scans.{AreDigits, IsScanned, within_limits}
use Rattle.exact_decimal.proofs.Kept.{Keeps-exists, leading_le}
use Rattle.exact_decimal.proofs.OneForm.{IsInLimits, no_value, limited_none, out_of_limits}
use Rattle.exact_decimal.proofs.WholeNumbers.{decimal_digits, decimal_value}

-- ---- what is within the limits is read

within_gives : (negative : Bool) (ds : List ℕ) (up down : ℕ) (d : DecimalValue) → within_limits negative ds up down ≡ Ok (Finite d) → d ≡ one_form negative ds up down
unfolding within_limits
within_gives negative ds up down d h = go (is_within ds up down) h
  where
    go : (b : Bool) → cond b (Ok (Finite (one_form negative ds up down))) (Err faults.OutOfRange) ≡ Ok (Finite d) → d ≡ one_form negative ds up down
    go true e = cc
    go false e = absurd cc

pub whole_number : (n : ℕ) (d : DecimalValue) → n < 2 ^ 64
    → ((ds : List ℕ) → AreDigits ds → digits_value 10 ds ≡ n → within_limits false ds 0 0 ≡ Ok (Finite d)) → Finite d ≡ number_of n
unfolding number_of
whole_number n d small h = ap Finite (within_gives false (decimal n) 0 0 d (h (decimal n) (decimal_digits n small) (decimal_value n small)))

-- ---- reals

pub read_long : (token : List ℕ) → is_real token ≡ true → 128 < length token → number_read token ≡ Err faults.OutOfRange
unfolding number_read is_in_limits
read_long token real long =
    let test : is_in_limits token ≡ false = and_left (leb (length token) 128) (is_within (digits_part token) (power_up token) (power_down token)) (lt-leb (length token) 128 long) in
    rw (real, test) refl

read_real : (token : List ℕ) → is_real token ≡ true → length token ≤ 128 → number_read token ≡ within_limits (has_minus token) (digits_part token) (power_up token) (power_down token)
unfolding number_read is_in_limits within_limits decimal_of
read_real token real short = rw (real, le-leb (length token) 128 short) refl

-- one of both powers is none
one_power : (text : List ℕ) → (multiplies_by text ≡ 0) ⊎ (divides_by text ≡ 0)
unfolding multiplies_by divides_by
one_power text = elim (cases_Bool (has_minus text)) [
  | inl e ↦ inl (rw e refl)
  | inr e ↦ inr (rw e refl)
]

-- ---- powers past 10,000

-- two pairs of powers that are both out of the limits
both_out : (negative : Bool) (ds : List ℕ) (u d v e : ℕ) → AreDigits ds → ((z p : ℕ) → p + z ≤ length ds → IsInLimits z p u d → ⊥) → ((z p : ℕ) → p + z ≤ length ds → IsInLimits z p v e → ⊥) → within_limits negative ds u d ≡ within_limits negative ds v e
both_out negative ds u d v e h first second =
    let kept = Keeps-exists ds h in
    let k = kept.keeps in
    let size : kept.places + kept.zeros ≤ length ds = omega (arith, k.length_is, leading_le ds) in
    elim (cases_eq kept.places 0) [
      | inl none ↦ let n = no_value ds kept.digits kept.zeros kept.places k none in limited_none negative ds u d n ∙ sym (limited_none negative ds v e n)
      | inr some ↦
          out_of_limits negative ds u d kept.digits kept.zeros kept.places k (omega arith) (first kept.zeros kept.places size)
          ∙ sym (out_of_limits negative ds v e kept.digits kept.zeros kept.places k (omega arith) (second kept.zeros kept.places size))
    ]

capped_powers : (negative : Bool) (ds : List ℕ) (u d f : ℕ) → AreDigits ds → length ds ≤ 128 → f ≤ 128 → (u ≡ 0) ⊎ (d ≡ 0)
    → within_limits negative ds (min u 10000) (min d 10000 + f) ≡ within_limits negative ds u (d + f)
capped_powers negative ds u d f h few short one = elim (cases_lt 10000 u) [
  | inl far ↦
      let none : d ≡ 0 = elim one [ inl e ↦ absurd (omega arith) | inr e ↦ e ] in
      both_out negative ds (min u 10000) (min d 10000 + f) u (d + f) h (λ z p size l. omega (arith, l.high)) (λ z p size l. omega (arith, l.high))
  | inr near ↦ elim (cases_lt 10000 d) [
    | inl far ↦
        let none : u ≡ 0 = elim one [ inl e ↦ e | inr e ↦ absurd (omega arith) ] in
        both_out negative ds (min u 10000) (min d 10000 + f) u (d + f) h (λ z p size l. omega (arith, l.low)) (λ z p size l. omega (arith, l.low))
    | inr low ↦
        let same_up : min u 10000 ≡ u = omega arith in
        let same_down : min d 10000 + f ≡ d + f = omega arith in
        ap (λ x. within_limits negative ds x (min d 10000 + f)) same_up ∙ ap (λ x. within_limits negative ds u x) same_down
  ]
]

pub read_scanned : (token : List ℕ) (negative : Bool) (whole fraction : List ℕ) (value up down : ℕ) → IsScanned token negative whole fraction value up down → length token ≤ 128
    → number_read token ≡ within_limits negative (whole ++ fraction) up (down + length fraction)
read_scanned token negative whole fraction value up down s short =
    let text = exponent_part token in
    let same : whole ++ fraction ≡ digits_part token = ap (λ (xs : List ℕ). xs ++ fraction) s.whole_is ∙ ap (λ (xs : List ℕ). whole_part token ++ xs) s.fraction_is in
    let digits : AreDigits (digits_part token) = subst AreDigits same s.are_digits in
    let behind : length fraction ≡ length (fraction_part token) = ap (λ (xs : List ℕ). length xs) s.fraction_is in
    let few : length (digits_part token) ≤ 128 = omega (arith, ap (λ (xs : List ℕ). length xs) same, length-append whole fraction, s.fits) in
    let short_fraction : length (fraction_part token) ≤ 128 = omega (arith, s.fits) in
    read_real token s.real short
    ∙ sym (capped_powers (has_minus token) (digits_part token) (multiplies_by text) (divides_by text) (length (fraction_part token)) digits few short_fraction (one_power text))
    ∙ rw (s.sign, s.whole_is, s.fraction_is, s.up_is, s.down_is) refl
