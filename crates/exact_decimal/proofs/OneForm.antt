-- The one form of a decimal, from the digits that are kept.
use Rattle.std.proofs.Common.{◌≡◌, ◌≢◌, ℕ, ◌+◌, ◌-◌, ◌*◌, ◌^◌, ◌%◌, ◌<◌, ◌≤◌, Bool, true, false, ◌&&◌, eqb, leb, List, length, Ok, Err, refl, sym, ap, ◌∙◌, subst, inl, inr, arith}
use Rattle.std.specs.Str.Parse.{digits_value}
use Rattle.std.proofs.Math.Nat.{zero-mul, mul-zero, eq_of_mul-eq-mul_right}
use Rattle.std.proofs.lemmas.Bool.{leb-true, ne_eqb, eq-eqb, and_parts, and_from, or_right, cases_eq, cases_lt, le-leb, false_from_ne_true}
use Rattle.exact_decimal.specs.declared.number.Number.TheVariants.{Finite}
use Rattle.exact_decimal.specs.declared.number.NumberFault.TheVariants as faults
use Rattle.exact_decimal.specs.Decimals.{DecimalValue, IsNormal}
use Rattle.exact_decimal.specs.Tokens.{without_leading_zeros, significant_digits, zero_decimal, one_form, is_within}
use Rattle.exact_decimal.specs.Scans.{AreDigits, Keeps, within_limits}
use Rattle.exact_decimal.proofs.Powers.{one_le_ten, ten_up, times_low, times_high, one_split}
use Rattle.exact_decimal.proofs.Kept.{Keeps-exists}

-- digits without a zero at their end, with a sign and what is left of two powers of ten
abbrev pub form : Bool → ℕ → ℕ → ℕ → DecimalValue
form negative digits power down = record { negative = negative; digits = digits; up = power - down; down = down - power }

-- ---- where there is a digit that isn't 0

pub some_value : (ds : List ℕ) (n z p : ℕ) → Keeps ds n z p → 0 < p → 0 < digits_value 10 ds
some_value ds n z p k h = let more = times_low (p - 1) z n (k.low h) in let one = one_le_ten (p - 1 + z) in omega (arith, k.value)

pub no_value : (ds : List ℕ) (n z p : ℕ) → Keeps ds n z p → p ≡ 0 → digits_value 10 ds ≡ 0
no_value ds n z p k h =
    let one : 10 ^ p ≡ 1 = ap (λ x. 10 ^ x) h in
    let none : n ≡ 0 = omega (arith, k.high) in
    k.value ∙ ap (λ x. x * 10 ^ z) none ∙ zero-mul (10 ^ z)

pub form_of : (negative : Bool) (ds : List ℕ) (up down n z p : ℕ) → Keeps ds n z p → 0 < p → one_form negative ds up down ≡ form negative n (up + z) down
unfolding one_form
form_of negative ds up down n z p k h =
    let some = some_value ds n z p k h in
    let test : eqb (digits_value 10 ds) 0 ≡ false = ne_eqb (digits_value 10 ds) 0 (λ e. omega arith) in
    rw (test, ← k.digits_are, ← k.zeros_are h) refl

pub form_of_none : (negative : Bool) (ds : List ℕ) (up down : ℕ) → digits_value 10 ds ≡ 0 → one_form negative ds up down ≡ zero_decimal
unfolding one_form
form_of_none negative ds up down h = rw (eq-eqb (digits_value 10 ds) 0 h) refl

-- ---- the limits

-- the three tests on a number of p places with z zeros behind it
pub record IsInLimits (z p up down : ℕ) : Type 0 where
  pub few : p ≤ 38
  pub low : down ≤ up + (p + z - 1) + 400
  pub high : up + (p + z - 1) ≤ 308 + down

limits_hold : (s first up down z p : ℕ) → s ≡ p → first ≡ p + z → IsInLimits z p up down → (leb s 38 && leb down (up + (first - 1) + 400) && leb (up + (first - 1)) (308 + down)) ≡ true
limits_hold s first up down z p e f l =
    let few : s ≤ 38 = omega (arith, l.few) in
    let low : down ≤ up + (first - 1) + 400 = omega (arith, l.low) in
    let high : up + (first - 1) ≤ 308 + down = omega (arith, l.high) in
    and_from (leb s 38 && leb down (up + (first - 1) + 400)) (leb (up + (first - 1)) (308 + down))
    (and_from (leb s 38) (leb down (up + (first - 1) + 400)) (le-leb s 38 few) (le-leb down (up + (first - 1) + 400) low)) (le-leb (up + (first - 1)) (308 + down) high)

limits_held : (s first up down z p : ℕ) → s ≡ p → first ≡ p + z → (leb s 38 && leb down (up + (first - 1) + 400) && leb (up + (first - 1)) (308 + down)) ≡ true → IsInLimits z p up down
limits_held s first up down z p e f h =
    let both = and_parts (leb s 38 && leb down (up + (first - 1) + 400)) (leb (up + (first - 1)) (308 + down)) h in
    let front = and_parts (leb s 38) (leb down (up + (first - 1) + 400)) both.0 in
    let few = leb-true s 38 front.0 in
    let low = leb-true down (up + (first - 1) + 400) front.1 in
    let high = leb-true (up + (first - 1)) (308 + down) both.1 in
    record { few = omega arith; low = omega arith; high = omega arith }

pub within : (ds : List ℕ) (up down n z p : ℕ) → Keeps ds n z p → IsInLimits z p up down → is_within ds up down ≡ true
unfolding is_within
within ds up down n z p k l = or_right (eqb (digits_value 10 ds) 0) _ (limits_hold (length (significant_digits ds)) (length (without_leading_zeros ds)) up down z p (sym k.places_are) k.length_is l)

pub within_none : (ds : List ℕ) (up down : ℕ) → digits_value 10 ds ≡ 0 → is_within ds up down ≡ true
unfolding is_within
within_none ds up down h = rw (eq-eqb (digits_value 10 ds) 0 h) refl

-- what is within them keeps them
pub within_keeps : (ds : List ℕ) (up down n z p : ℕ) → Keeps ds n z p → 0 < p → is_within ds up down ≡ true → IsInLimits z p up down
unfolding is_within
within_keeps ds up down n z p k some h =
    let more = some_value ds n z p k some in
    let test : eqb (digits_value 10 ds) 0 ≡ false = ne_eqb (digits_value 10 ds) 0 (λ e. omega arith) in
    limits_held (length (significant_digits ds)) (length (without_leading_zeros ds)) up down z p (sym k.places_are) k.length_is (rw test at h)

-- ---- the one form is normal

pub zero_normal : IsNormal zero_decimal
zero_normal = record {
  few = one_le_ten 38;
  last = λ h. absurd (h refl);
  one_power = refl;
  zero_sign = λ h. refl;
  zero_power = λ h. refl;
  low = λ h. absurd (h refl);
  high = one_le_ten 309;
}

one_is_left : (a b : ℕ) → (a - b) * (b - a) ≡ 0
one_is_left a b = elim (cases_lt a b) [
  | inl lt ↦ let e : a - b ≡ 0 = omega arith in ap (λ x. x * (b - a)) e ∙ zero-mul (b - a)
  | inr le ↦ let e : b - a ≡ 0 = omega arith in ap (λ x. (a - b) * x) e ∙ mul-zero (a - b)
]

pub normal : (negative : Bool) (n z p up down : ℕ) → 0 < p → 10 ^ (p - 1) ≤ n → n < 10 ^ p → n % 10 ≢ 0 → IsInLimits z p up down → IsNormal (form negative n (up + z) down)
normal negative n z p up down some low high last l =
    let u = up + z - down in
    let d = down - (up + z) in
    let one = one_le_ten (p - 1) in
    let few : 10 ^ p ≤ 10 ^ 38 = ten_up p 38 l.few in
    let low_more : 10 ^ (p - 1 + (u + 400)) ≤ n * 10 ^ (u + 400) = times_low (p - 1) (u + 400) n low in
    let low_room : 10 ^ d ≤ 10 ^ (p - 1 + (u + 400)) = ten_up d (p - 1 + (u + 400)) (omega (arith, l.low)) in
    let high_more : n * 10 ^ u < 10 ^ (p + u) = times_high p u n high in
    let high_room : 10 ^ (p + u) ≤ 10 ^ (309 + d) = ten_up (p + u) (309 + d) (omega (arith, l.high)) in
    record {
      few = omega arith;
      last = λ h. last;
      one_power = one_is_left (up + z) down;
      zero_sign = λ h. absurd (omega arith);
      zero_power = λ h. absurd (omega arith);
      low = λ h. omega arith;
      high = omega arith;
    }

pub one_form_normal : (negative : Bool) (ds : List ℕ) (up down : ℕ) → AreDigits ds → is_within ds up down ≡ true → IsNormal (one_form negative ds up down)
one_form_normal negative ds up down h w =
    let kept = Keeps-exists ds h in
    let k = kept.keeps in
    elim (cases_eq kept.places 0) [
      | inl e ↦ subst IsNormal (sym (form_of_none negative ds up down (no_value ds kept.digits kept.zeros kept.places k e))) zero_normal
      | inr e ↦
          let some : 0 < kept.places = omega arith in
          subst IsNormal (sym (form_of negative ds up down kept.digits kept.zeros kept.places k some))
          (normal negative kept.digits kept.zeros kept.places up down some (k.low some) k.high (k.last some) (within_keeps ds up down kept.digits kept.zeros kept.places k some w))
    ]

-- ---- what the passes answer

-- a number whose digits aren't all zeros
pub limited : (negative : Bool) (ds : List ℕ) (up down n z p : ℕ) → Keeps ds n z p → 0 < p → IsInLimits z p up down → within_limits negative ds up down ≡ Ok (Finite (form negative n (up + z) down))
unfolding within_limits
limited negative ds up down n z p k some l = rw (within ds up down n z p k l) (ap (λ d. Ok (Finite d)) (form_of negative ds up down n z p k some))

pub limited_none : (negative : Bool) (ds : List ℕ) (up down : ℕ) → digits_value 10 ds ≡ 0 → within_limits negative ds up down ≡ Ok (Finite zero_decimal)
unfolding within_limits
limited_none negative ds up down h = rw (within_none ds up down h) (ap (λ d. Ok (Finite d)) (form_of_none negative ds up down h))

pub out_of_limits : (negative : Bool) (ds : List ℕ) (up down n z p : ℕ) → Keeps ds n z p → 0 < p → (IsInLimits z p up down → ⊥) → within_limits negative ds up down ≡ Err faults.OutOfRange
unfolding within_limits
out_of_limits negative ds up down n z p k some h = rw (false_from_ne_true (is_within ds up down) (λ w. h (within_keeps ds up down n z p k some w))) refl

-- with more than 38 digits kept, digits are out of range
pub too_many : (negative : Bool) (ds : List ℕ) (up down : ℕ) → AreDigits ds → 38 < length (significant_digits ds) → within_limits negative ds up down ≡ Err faults.OutOfRange
too_many negative ds up down h many =
    let kept = Keeps-exists ds h in
    let k = kept.keeps in
    out_of_limits negative ds up down kept.digits kept.zeros kept.places k (omega (arith, k.places_are)) (λ l. omega (arith, l.few, k.places_are))

-- ---- a number that is short enough for 64 bits

-- a value that ends in so many zeros keeps its other digits
pub short_keeps : (ds : List ℕ) (value n z : ℕ) → AreDigits ds → digits_value 10 ds ≡ value → n * 10 ^ z ≡ value → n % 10 ≢ 0 → value < 10 ^ 20 → (p : ℕ) × (0 < p) × (p + z ≤ 20) × Keeps ds n z p
short_keeps ds value n z h e f last small =
    let kept = Keeps-exists ds h in
    let k = kept.keeps in
    elim (cases_eq kept.places 0) [
      | inl none ↦
          let nothing : n * 10 ^ z ≡ 0 = f ∙ sym e ∙ no_value ds kept.digits kept.zeros kept.places k none in
          let n_is : n ≡ 0 = eq_of_mul-eq-mul_right (10 ^ z) (one_le_ten z) n 0 (nothing ∙ sym (zero-mul (10 ^ z))) in
          absurd (last (ap (λ x. x % 10) n_is))
      | inr other ↦
          let some : 0 < kept.places = omega arith in
          let same = one_split kept.digits n kept.zeros z (k.last some) last (sym k.value ∙ e ∙ sym f) in
          let low : 10 ^ (kept.places - 1 + kept.zeros) ≤ kept.digits * 10 ^ kept.zeros = times_low (kept.places - 1) kept.zeros kept.digits (k.low some) in
          let fits : kept.places + kept.zeros ≤ 20 = elim (cases_lt 20 (kept.places + kept.zeros)) [
            | inl lt ↦ let room : 10 ^ 20 ≤ 10 ^ (kept.places - 1 + kept.zeros) = ten_up 20 (kept.places - 1 + kept.zeros) (omega arith) in absurd (omega (arith, k.value))
            | inr le ↦ le
          ] in
          (kept.places, some, omega (arith, same.1), subst (λ x. Keeps ds x z kept.places) same.0 (subst (λ x. Keeps ds kept.digits x kept.places) same.1 k))
    ]

pub form_is : (negative : Bool) (n power down m u d : ℕ) → m ≡ n → u ≡ power - down → d ≡ down - power → form negative n power down ≡ record { negative = negative; digits = m; up = u; down = d }
form_is negative n power down m u d e f g =
    let same : record { negative = negative; digits = n; up = power - down; down = down - power } ≡ record { negative = negative; digits = m; up = u; down = d } = cc in
    same
