-- What a literal shows: its parts, and that their value is the decimal's.
use Rattle.std.proofs.Common.{◌≡◌, ℕ, zero, suc, ◌+◌, ◌-◌, ◌*◌, ◌^◌, ◌<◌, ◌≤◌, true, false, cond, inl, inr, List, [], ◌∷◌, ◌++◌, length, take, drop, refl, sym, ◌∙◌, subst, arith, length-append, length-drop, append_assoc}
use Rattle.std.proofs.lemmas.Bool.{cases_lt}
use Rattle.std.proofs.lemmas.Bool.Decides.{leb_tells}
use Rattle.std.proofs.lemmas.Grind.{common_steps}
use Rattle.std.proofs.lemmas.List.{length-replicate, take-append-drop, append-nil}
use Rattle.std.proofs.lemmas.Fmt.{decimal_is_IsNumeral_wide}
use Rattle.std.proofs.lemmas.Int.Digits.{digits_value_push}
use Rattle.std.specs.Fmt.{decimal}
use Rattle.std.specs.Str.Parse.{digits_value}
use Rattle.exact_decimal.specs.Decimals.{DecimalValue, IsNormal}
use Rattle.exact_decimal.specs.Literals.{zeros, pointed, plain_text, difference_text, exponent_text, is_plain, size_text}
use Rattle.exact_decimal.proofs.Powers.{times_zeros}
use Rattle.exact_decimal.proofs.Tens.{times-suc}
use Rattle.exact_decimal.proofs.Texts.{pointed_whole, pointed_within, IsShort, short_normal}
use Rattle.exact_decimal.proofs.Kept.{are_digits_both, digits_from}
use Rattle.exact_decimal.specs.Scans.{AreDigits}

-- ---- digits and zeros

-- zeros are digits
AreDigits-zeros : (k : ℕ) → AreDigits (zeros k)
AreDigits-zeros zero = refl
AreDigits-zeros (suc k) = AreDigits-zeros k

-- zeros in front count for nothing
value-zeros_before : (k : ℕ) (ds : List ℕ) → digits_value 10 (zeros k ++ ds) ≡ digits_value 10 ds
value-zeros_before zero ds = refl
value-zeros_before (suc k) ds = value-zeros_before k ds

-- each zero behind the digits is a factor of ten
value-zeros_behind : (k : ℕ) (ds : List ℕ) → digits_value 10 (ds ++ zeros k) ≡ digits_value 10 ds * 10 ^ k
value-zeros_behind zero ds = rw append-nil (omega arith)
value-zeros_behind (suc k) ds =
    let push : digits_value 10 (ds ++ (48 ∷ [])) ≡ digits_value 10 ds * 10 + 0 = digits_value_push 10 ds 48 in
    let more : digits_value 10 ((ds ++ (48 ∷ [])) ++ zeros k) ≡ digits_value 10 (ds ++ (48 ∷ [])) * 10 ^ k = value-zeros_behind k (ds ++ (48 ∷ [])) in
    let whole : ds ++ zeros (suc k) ≡ (ds ++ (48 ∷ [])) ++ zeros k = sym (append_assoc ds (48 ∷ []) (zeros k)) in
    let power : digits_value 10 ds * 10 ^ suc k ≡ digits_value 10 ds * 10 ^ k * 10 = times-suc (digits_value 10 ds) k in
    rw (whole, more, push, power) (omega arith)

-- ---- the parts

-- nothing, or a point and what stands behind it
pub data IsPointed : List ℕ → List ℕ → Type 0 where
  no_point : IsPointed [] []
  point : (fraction : List ℕ) → IsPointed (46 ∷ []) fraction

-- nothing, or an exponent, which multiplies or divides by a power of ten
pub data IsPower : List ℕ → ℕ → ℕ → Type 0 where
  no_power : IsPower [] 0 0
  raised : (n : ℕ) → n < 1000 → IsPower (101 ∷ decimal n) n 0
  lowered : (n : ℕ) → 0 < n → n < 1000 → IsPower (101 ∷ (45 ∷ decimal n)) 0 n

-- a literal without its sign, and the number n × 10 ^ up / 10 ^ down that it shows
pub record Shows (literal : List ℕ) (n up down : ℕ) : Type 0 where
  pub whole : List ℕ
  pub dot : List ℕ
  pub fraction : List ℕ
  pub tail : List ℕ
  pub times : ℕ
  pub over : ℕ
  pub text : literal ≡ whole ++ (dot ++ (fraction ++ tail))
  pub is_pointed : IsPointed dot fraction
  pub is_power : IsPower tail times over
  pub are_digits : AreDigits (whole ++ fraction)
  pub some : 0 < length whole
  pub value : digits_value 10 (whole ++ fraction) * 10 ^ (times + down) ≡ n * 10 ^ (up + (over + length fraction))

-- ---- the point

-- digits with a point that stands in front of so many of them, or behind all
record IsCut (text digits : List ℕ) (behind : ℕ) : Type 0 where
  whole : List ℕ
  dot : List ℕ
  fraction : List ℕ
  is_text : text ≡ whole ++ (dot ++ fraction)
  is_pointed : IsPointed dot fraction
  all : whole ++ fraction ≡ digits
  some : 0 < length whole
  count : length fraction ≡ behind

-- a point in front of some digits, and behind one at least, cuts them
cut : (digits : List ℕ) (before : ℕ) → 0 < before → before ≤ length digits → IsCut (pointed digits before) digits (length digits - before)
cut digits before some h =
    elim (cases_lt before (length digits)) [
      | inl l ↦ record {
        whole = take before digits;
        dot = 46 ∷ [];
        fraction = drop before digits;
        is_text = pointed_within digits before l;
        is_pointed = point (drop before digits);
        all = take-append-drop before digits;
        some = grind (arith, common_steps);
        count = length-drop before digits;
      }
      | inr g ↦ record {
        whole = digits;
        dot = [];
        fraction = [];
        is_text = pointed_whole digits before g ∙ sym (append-nil digits);
        is_pointed = no_point;
        all = append-nil digits;
        some = omega arith;
        count = omega arith;
      }
    ]

-- cut digits and a power show a number
shows_cut : (text digits tail : List ℕ) (n up down times over behind : ℕ) → IsCut text digits behind → IsPower tail times over → AreDigits digits
    → digits_value 10 digits * 10 ^ (times + down) ≡ n * 10 ^ (up + (over + behind)) → Shows (text ++ tail) n up down
shows_cut text digits tail n up down times over behind c p are e = record {
  whole = c.whole;
  dot = c.dot;
  fraction = c.fraction;
  tail = tail;
  times = times;
  over = over;
  text = rw c.is_text (simp append_assoc);
  is_pointed = c.is_pointed;
  is_power = p;
  are_digits = rw c.all are;
  some = c.some;
  value = rw (c.all, c.count) e;
}

-- ---- both forms

-- a plain literal shows its number
plain_shown : (digits : List ℕ) (up down : ℕ) → AreDigits digits → 0 < length digits → Shows (plain_text digits up down) (digits_value 10 digits) up down
unfolding plain_text
plain_shown digits up down are some =
    let front : List ℕ = zeros (down + 1 - length digits) in
    let filled : List ℕ = front ++ (digits ++ zeros up) in
    let places : length filled ≡ down + 1 - length digits + (length digits + up) = simp (length-append, length-replicate) in
    let c : IsCut (pointed filled (length filled - down)) filled (length filled - (length filled - down)) = cut filled (length filled - down) (omega arith) (omega arith) in
    let e : length filled - (length filled - down) ≡ down = omega arith in
    let value : digits_value 10 filled ≡ digits_value 10 digits * 10 ^ up = value-zeros_before (down + 1 - length digits) (digits ++ zeros up) ∙ value-zeros_behind up digits in
    let ds : AreDigits filled = are_digits_both front (digits ++ zeros up) (AreDigits-zeros (down + 1 - length digits)) (are_digits_both digits (zeros up) are (AreDigits-zeros up)) in
    let sums : digits_value 10 filled * 10 ^ (0 + down) ≡ digits_value 10 digits * 10 ^ (up + (0 + down)) = rw value (times_zeros (digits_value 10 digits) up (0 + down)) in
    let shown : Shows (pointed filled (length filled - down) ++ []) (digits_value 10 digits) up down = shows_cut _ filled [] (digits_value 10 digits) up down 0 0 down (rw e at c) no_power ds sums in
    rw append-nil at shown

-- the power of a literal with an exponent
record HasPower (tail : List ℕ) (first down : ℕ) : Type 0 where
  times : ℕ
  over : ℕ
  is_power : IsPower tail times over
  same : times + down ≡ first + over

-- the difference of two powers is one
power_of : (first down : ℕ) → first < down + 1000 → down < first + 1000 → HasPower (101 ∷ difference_text first down) first down
unfolding difference_text
power_of first down h g =
    elim (leb_tells down first) [
      | inl p ↦ rw p.0 (record { times = first - down; over = 0; is_power = raised (first - down) (omega arith); same = omega arith })
      | inr p ↦ rw p.0 (record { times = 0; over = down - first; is_power = lowered (down - first) (omega arith) (omega arith); same = omega arith })
    ]

-- a literal with an exponent shows its number
exponent_shown : (digits : List ℕ) (up down : ℕ) → AreDigits digits → IsShort (length digits) up down → Shows (exponent_text digits up down) (digits_value 10 digits) up down
unfolding exponent_text
exponent_shown digits up down are s =
    let some : 1 ≤ length digits = s.some in
    let p : HasPower (101 ∷ difference_text (up + (length digits - 1)) down) (up + (length digits - 1)) down = power_of (up + (length digits - 1)) down (omega arith) (omega arith) in
    let e : p.times + down ≡ up + (p.over + (length digits - 1)) = omega arith in
    shows_cut _ digits _ (digits_value 10 digits) up down p.times p.over (length digits - 1) (cut digits 1 (omega arith) some) p.is_power are (rw e refl)

-- a literal without its sign shows its number
pub size_shown : (digits : List ℕ) (up down : ℕ) → AreDigits digits → IsShort (length digits) up down → Shows (size_text digits up down) (digits_value 10 digits) up down
unfolding size_text
size_shown digits up down are s =
    elim (is_plain (length digits) up down) as (λ t. Shows (cond t (plain_text digits up down) (exponent_text digits up down)) (digits_value 10 digits) up down) [
      | true ↦ plain_shown digits up down are s.some
      | false ↦ exponent_shown digits up down are s
    ]

-- a decimal's literal shows the decimal
pub decimal_shown : (d : DecimalValue) → IsNormal d → Shows (size_text (decimal d.digits) d.up d.down) d.digits d.up d.down
decimal_shown d n =
    let numeral = decimal_is_IsNumeral_wide d.digits (omega (arith, n.few)) in
    let value : digits_value 10 (decimal d.digits) ≡ d.digits = numeral.1 in
    let shown : Shows (size_text (decimal d.digits) d.up d.down) (digits_value 10 (decimal d.digits)) d.up d.down = size_shown (decimal d.digits) d.up d.down (digits_from _ numeral.0.1) (short_normal d n) in
    let P : ℕ → Type 0 = λ m. Shows (size_text (decimal d.digits) d.up d.down) m d.up d.down in subst P value shown
