-- The pieces of a literal, and their lengths.
use Rattle.std.proofs.Common.{◌≡◌, ◌≢◌, ℕ, zero, suc, ◌+◌, ◌-◌, ◌*◌, ◌^◌, ◌<◌, ◌≤◌, Bool, true, false, inl, inr, List, [], ◌∷◌, ◌++◌, length, take, drop, refl, sym, ◌∙◌, ap, arith, length-append, codes, cond}
use Rattle.std.proofs.lemmas.Bool.{cases_lt}
use Rattle.std.proofs.lemmas.Bool.Decides.{nat_tests, leb_tells, eqb_tells}
use Rattle.std.proofs.lemmas.Grind.{common_steps}
use Rattle.std.proofs.lemmas.List.{length-replicate, append-nil}
use Rattle.std.proofs.lemmas.Fmt.{decimal_is_IsNumeral_wide, length-decimal-le, length-decimal-le_wide, decimal_digit}
use Rattle.std.proofs.lemmas.Int.Digits.{digits_value-lt}
use Rattle.std.specs.Fmt.{decimal}
use Rattle.std.specs.Str.Parse.{digits_value}
use Rattle.exact_decimal.specs.Decimals.{DecimalValue, IsNormal}
use Rattle.exact_decimal.specs.Literals.{zeros, pointed, plain_text, difference_text, exponent_text, is_plain, size_text, sign_text, decimal_text}
use Rattle.exact_decimal.proofs.Powers.{times_low, times_high}
use Rattle.exact_decimal.proofs.Tens.{one_zero, no_up, below_from_powers}

-- ---- the point

-- a point that stands behind all digits isn't written
pub pointed_whole : (digits : List ℕ) (before : ℕ) → length digits ≤ before → pointed digits before ≡ digits
unfolding pointed
pointed_whole digits before h = grind (arith, nat_tests)

-- a point between the digits
pub pointed_within : (digits : List ℕ) (before : ℕ) → before < length digits → pointed digits before ≡ take before digits ++ (46 ∷ drop before digits)
unfolding pointed
pointed_within digits before h = grind (arith, nat_tests)

-- a point takes one byte at most
length-pointed-le : (digits : List ℕ) (before : ℕ) → length (pointed digits before) ≤ length digits + 1
length-pointed-le digits before =
    elim (cases_lt before (length digits)) [
      | inl h ↦ rw (pointed_within digits before h) (grind (arith, common_steps))
      | inr h ↦ rw (pointed_whole digits before h) (omega arith)
    ]

-- ---- plain literals

-- no zero is filled in where digits stand before the point
no_zeros : (digits : List ℕ) (down : ℕ) → down < length digits → zeros (down + 1 - length digits) ≡ []
no_zeros digits down h = let e : down + 1 - length digits ≡ 0 = omega arith in rw e refl

-- one zero stands before the point where no digit does
front_zeros : (digits : List ℕ) (down : ℕ) → length digits ≤ down → zeros (down + 1 - length digits) ≡ 48 ∷ zeros (down - length digits)
front_zeros digits down h = let e : down + 1 - length digits ≡ suc (down - length digits) = omega arith in rw e refl

-- the literal of digits of which one at least stands before the point
pub plain_long : (digits : List ℕ) (up down : ℕ) → up * down ≡ 0 → down < length digits → plain_text digits up down ≡ pointed digits (length digits - down) ++ zeros up
unfolding plain_text
plain_long digits up zero one h =
    rw (no_zeros digits 0 h) (pointed_whole (digits ++ zeros up) (length (digits ++ zeros up) - 0) (omega arith)
    ∙ ap (λ (ds : List ℕ). ds ++ zeros up) (sym (pointed_whole digits (length digits - 0) (omega arith))))
plain_long digits up (suc d) one h =
    let e : up ≡ 0 = omega arith in
    rw (no_zeros digits (suc d) h, e) (simp append-nil)

-- the literal of digits that all stand behind the point
pub plain_short : (digits : List ℕ) (up down : ℕ) → up ≡ 0 → 0 < length digits → length digits ≤ down → plain_text digits up down ≡ codes "0." ++ (zeros (down - length digits) ++ digits)
unfolding plain_text
plain_short digits up down e some h =
    let filled : List ℕ = 48 ∷ (zeros (down - length digits) ++ digits) in
    let n : length (zeros (down - length digits) ++ digits) ≡ down = grind (arith, common_steps, length-replicate) in
    let b : length filled - down ≡ 1 = omega arith in
    rw (front_zeros digits down h, e) (simp append-nil (rw b (pointed_within filled 1 (omega arith))))

-- ---- how many digits a number has

-- a number and the count of its digits
pub record HasPlaces (n places : ℕ) : Type 0 where
  pub some : 1 ≤ places
  pub low : n ≢ 0 → 10 ^ (places - 1) ≤ n
  pub high : n < 10 ^ places

-- a number is no smaller than the power at its first digit
low_places : (n : ℕ) → n < 10 ^ 64 → 0 < length (decimal n) → n ≢ 0 → 10 ^ (length (decimal n) - 1) ≤ n
low_places n fits some nonzero =
    let places : ℕ = length (decimal n) in
    elim (cases_lt n (10 ^ (places - 1))) [
      | inl h ↦ elim (cases_lt 0 (places - 1)) [
        | inl more ↦ let l : length (decimal n) ≤ places - 1 = length-decimal-le_wide (places - 1) n more h fits in absurd (omega arith)
        | inr one ↦ let e : places - 1 ≡ 0 = omega arith in let p : n < 10 ^ 0 = rw e at h in absurd (nonzero (omega arith))
      ]
      | inr h ↦ h
    ]

-- the digits of a number up to 128 bits
pub places_of : (n : ℕ) → n < 10 ^ 64 → HasPlaces n (length (decimal n))
places_of n fits =
    let numeral = decimal_is_IsNumeral_wide n fits in
    let some : 0 < length (decimal n) = numeral.0.0 in
    let below : digits_value 10 (decimal n) < 10 ^ length (decimal n) = digits_value-lt 10 (decimal n) numeral.0.1 in
    record {
      some = some;
      low = λ nonzero. low_places n fits some nonzero;
      high = let e : digits_value 10 (decimal n) ≡ n = numeral.1 in omega arith;
    }

-- ---- lengths

-- the digits and powers that keep the limits
pub record IsShort (places up down : ℕ) : Type 0 where
  pub some : 1 ≤ places
  pub few : places ≤ 38
  pub low : down < places + up + 400
  pub high : places + up < 310 + down
  pub one_power : up * down ≡ 0

-- zero is short
short_zero : (up down : ℕ) → up + down ≡ 0 → IsShort 1 up down
short_zero up down e =
    let u : up ≡ 0 = omega arith in
    let d : down ≡ 0 = omega arith in
    rw (u, d) (record { some = omega arith; few = omega arith; low = omega arith; high = omega arith; one_power = refl })

-- so is each other decimal in its one form
pub short_normal : (d : DecimalValue) → IsNormal d → IsShort (length (decimal d.digits)) d.up d.down
short_normal d n =
    let fits : d.digits < 10 ^ 64 = omega (arith, n.few) in
    let p : HasPlaces d.digits (length (decimal d.digits)) = places_of d.digits fits in
    elim (eqb_tells d.digits 0) [
      | inl z ↦ rw (z.1, decimal_digit 0 (omega arith)) (short_zero d.up d.down (n.zero_power z.1))
      | inr z ↦
          let places : ℕ = length (decimal d.digits) in
          let above : d.digits * 10 ^ (d.up + 400) < 10 ^ (places + (d.up + 400)) = times_high places (d.up + 400) d.digits p.high in
          let least : 10 ^ d.down ≤ d.digits * 10 ^ (d.up + 400) = n.low z.1 in
          let low : d.down < places + (d.up + 400) = below_from_powers _ _ (omega arith) in
          let under : 10 ^ (places - 1 + d.up) ≤ d.digits * 10 ^ d.up = times_low (places - 1) d.up d.digits (p.low z.1) in
          let most : d.digits * 10 ^ d.up < 10 ^ (309 + d.down) = n.high in
          let high : places - 1 + d.up < 309 + d.down = below_from_powers _ _ (omega arith) in
          record {
            some = p.some;
            few = length-decimal-le_wide 38 d.digits (omega arith) n.few fits;
            low = omega arith;
            high = omega arith;
            one_power = n.one_power;
          }
    ]

-- the exponent's text
length-difference : (up down : ℕ) → up < down + 1000 → down < up + 1000 → length (difference_text up down) ≤ 4
unfolding difference_text
length-difference up down h g =
    elim (leb_tells down up) [
      | inl p ↦ rw p.0 (let l : length (decimal (up - down)) ≤ 3 = length-decimal-le 3 (up - down) (omega arith) (omega arith) (omega arith) in omega arith)
      | inr p ↦ rw p.0 (let l : length (decimal (down - up)) ≤ 3 = length-decimal-le 3 (down - up) (omega arith) (omega arith) (omega arith) in omega arith)
    ]

-- what the test of a plain literal says
pub record IsNear (places up down : ℕ) : Type 0 where
  pub low : down ≤ up + (places - 1) + 5
  pub high : up + (places - 1) ≤ down + 20

-- the test says so
pub near_plain : (places up down : ℕ) → is_plain places up down ≡ true → IsNear places up down
unfolding is_plain
near_plain places up down e = record { low = grind (arith, nat_tests); high = grind (arith, nat_tests) }

-- a plain literal has 44 bytes at most
plain_text_short : (digits : List ℕ) (up down : ℕ) → IsShort (length digits) up down → IsNear (length digits) up down → length (plain_text digits up down) ≤ 44
plain_text_short digits up down s near =
    elim (cases_lt down (length digits)) [
      | inl h ↦
          let l : length (pointed digits (length digits - down)) ≤ length digits + 1 = length-pointed-le digits (length digits - down) in
          let z : length (zeros up) ≡ up = length-replicate up 48 in
          let fits : length digits + 1 + up ≤ 44 =
          elim (one_zero up down s.one_power) [ inl e ↦ omega arith | inr e ↦ omega arith ] in
          rw (plain_long digits up down s.one_power h, length-append) (omega arith)
      | inr h ↦
          let e : up ≡ 0 = no_up up down (length digits) s.one_power s.some h in
          let z : length (zeros (down - length digits)) ≡ down - length digits = length-replicate (down - length digits) 48 in
          rw (plain_short digits up down e s.some h) (simp length-append (omega arith))
    ]

-- a literal with an exponent has 44 bytes at most
exponent_text_short : (digits : List ℕ) (up down : ℕ) → IsShort (length digits) up down → length (exponent_text digits up down) ≤ 44
unfolding exponent_text
exponent_text_short digits up down s =
    let l : length (pointed digits 1) ≤ length digits + 1 = length-pointed-le digits 1 in
    let e : length (difference_text (up + (length digits - 1)) down) ≤ 4 = length-difference (up + (length digits - 1)) down (omega arith) (omega arith) in
    rw length-append (omega arith)

-- a literal without its sign has 44 bytes at most
pub size_text_short : (digits : List ℕ) (up down : ℕ) → IsShort (length digits) up down → length (size_text digits up down) ≤ 44
unfolding size_text
size_text_short digits up down s =
    (elim (is_plain (length digits) up down) as (λ t. is_plain (length digits) up down ≡ t → length (cond t (plain_text digits up down) (exponent_text digits up down)) ≤ 44) [
      | true ↦ λ e. plain_text_short digits up down s (near_plain _ _ _ e)
      | false ↦ λ e. exponent_text_short digits up down s
    ]) refl

-- a sign takes one byte at most
pub length-sign_text : (negative : Bool) → length (sign_text negative) ≤ 1
unfolding sign_text
length-sign_text true = omega arith
length-sign_text false = omega arith

-- a decimal's literal has 45 bytes at most
pub length-decimal_text : (d : DecimalValue) → IsNormal d → length (decimal_text d) ≤ 45
unfolding decimal_text
length-decimal_text d n =
    let s : length (sign_text d.negative) ≤ 1 = length-sign_text d.negative in
    let t : length (size_text (decimal d.digits) d.up d.down) ≤ 44 = size_text_short _ _ _ (short_normal d n) in
    rw length-append (omega arith)
