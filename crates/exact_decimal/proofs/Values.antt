-- One form for each value, and the value of each form.
use Rattle.std.proofs.Common.{◌≡◌, ◌≢◌, ℕ, ◌+◌, ◌-◌, ◌*◌, ◌^◌, ◌<◌, Bool, true, false, cond, ◌&&◌, eqb, ◌⊎◌, List, refl, sym, ap, ◌∙◌, subst, inl, inr, arith}
use Rattle.std.specs.Str.Parse.{digits_value}
use Rattle.std.specs.Ordering.{nat_cmp}
use Rattle.std.specs.declared.cmp.Ordering.TheVariants.{Less, Equal, Greater}
use Rattle.std.proofs.Math.Nat.{zero-mul, eq_of_mul-eq-mul_right}
use Rattle.std.proofs.lemmas.Bool.{eqb-true, eq-eqb, le-ltb, cases_eq, and_parts}
use Rattle.exact_decimal.specs.Decimals.{DecimalValue, IsNormal, size_beside, signed_cmp, decimal_cmp, SameValue}
use Rattle.exact_decimal.specs.Tokens.{one_form}
use Rattle.exact_decimal.specs.Scans.{AreDigits}
use Rattle.exact_decimal.proofs.Powers.{one_le_ten, times_zeros, one_split}
use Rattle.exact_decimal.proofs.Kept.{Keeps-exists}
use Rattle.exact_decimal.proofs.OneForm.{form_of, form_of_none, no_value}
use Rattle.exact_decimal.proofs.Tens.{one_zero}
use Rattle.exact_decimal.proofs.Comparing.{same_from_cmp}

same_number : (x y : ℕ) → x ≡ y → nat_cmp x y ≡ Equal
same_number x y e = rw (le-ltb x y (omega arith), eq-eqb x y e) refl

pub same_size : (s : Bool) (x y : ℕ) → x ≡ y → signed_cmp s x s y ≡ Equal
same_size true x y e = same_number y x (sym e)
same_size false x y e = same_number x y e

both_zero : (s t : Bool) (x y : ℕ) → x ≡ 0 → y ≡ 0 → signed_cmp s x t y ≡ Equal
both_zero true true x y e f = same_number y x (f ∙ sym e)
both_zero false false x y e f = same_number x y (e ∙ sym f)
both_zero true false x y e f = rw (e, f) refl
both_zero false true x y e f = rw (e, f) refl

-- equal numbers have one size, and one sign unless they are zero
equal_sizes : (s t : Bool) (x y : ℕ) → signed_cmp s x t y ≡ Equal → (x ≡ y) × ((s ≡ t) ⊎ (x ≡ 0))
equal_sizes true true x y h = (sym (same_from_cmp y x h), inl refl)
equal_sizes false false x y h = (same_from_cmp x y h, inl refl)
equal_sizes true false x y h = go (eqb x 0 && eqb y 0) refl h
  where
    go : (b : Bool) → (eqb x 0 && eqb y 0) ≡ b → cond b Equal Less ≡ Equal → (x ≡ y) × ((true ≡ false) ⊎ (x ≡ 0))
    go true e k = let both = and_parts (eqb x 0) (eqb y 0) e in let f = eqb-true x 0 both.0 in let g = eqb-true y 0 both.1 in (f ∙ sym g, inr f)
    go false e k = absurd cc
equal_sizes false true x y h = go (eqb x 0 && eqb y 0) refl h
  where
    go : (b : Bool) → (eqb x 0 && eqb y 0) ≡ b → cond b Equal Greater ≡ Equal → (x ≡ y) × ((false ≡ true) ⊎ (x ≡ 0))
    go true e k = let both = and_parts (eqb x 0) (eqb y 0) e in let f = eqb-true x 0 both.0 in let g = eqb-true y 0 both.1 in (f ∙ sym g, inr f)
    go false e k = absurd cc

-- ---- the value of the one form

pub one_form_denotes : (negative : Bool) (ds : List ℕ) (up down : ℕ) → AreDigits ds → SameValue (one_form negative ds up down) (record { negative = negative; digits = digits_value 10 ds; up = up; down = down })
unfolding decimal_cmp
one_form_denotes negative ds up down h =
    let kept = Keeps-exists ds h in
    let k = kept.keeps in
    let n = kept.digits in
    let z = kept.zeros in
    let w : DecimalValue = record { negative = negative; digits = digits_value 10 ds; up = up; down = down } in
    elim (cases_eq kept.places 0) [
      | inl e ↦
          let none = no_value ds n z kept.places k e in
          subst (λ d. SameValue d w) (sym (form_of_none negative ds up down none))
          (both_zero false negative (0 * 10 ^ (0 + down)) (digits_value 10 ds * 10 ^ (up + 0)) (zero-mul (10 ^ (0 + down))) (ap (λ x. x * 10 ^ (up + 0)) none ∙ zero-mul (10 ^ (up + 0))))
      | inr e ↦
          let some : 0 < kept.places = omega arith in
          let one : up + z - down + down ≡ z + (up + (down - (up + z))) = omega arith in
          let sizes : n * 10 ^ (up + z - down + down) ≡ digits_value 10 ds * 10 ^ (up + (down - (up + z))) =
          ap (λ x. n * 10 ^ x) one ∙ sym (times_zeros n z (up + (down - (up + z)))) ∙ ap (λ x. x * 10 ^ (up + (down - (up + z)))) (sym k.value) in
          subst (λ d. SameValue d w) (sym (form_of negative ds up down n z kept.places k some)) (same_size negative _ _ sizes)
    ]

-- ---- two normal decimals of one value are one

-- one of both powers is 0 on each side, so their difference gives both
same_powers : (u d v e : ℕ) → u * d ≡ 0 → v * e ≡ 0 → u + e ≡ v + d → (u ≡ v) × (d ≡ e)
same_powers u d v e g h k = elim (one_zero u d g) [
  | inl p ↦ elim (one_zero v e h) [
    | inl q ↦ (omega arith, omega arith)
    | inr q ↦ (omega arith, omega arith)
  ]
  | inr p ↦ elim (one_zero v e h) [
    | inl q ↦ (omega arith, omega arith)
    | inr q ↦ (omega arith, omega arith)
  ]
]

no_size : (n x : ℕ) → n * 10 ^ x ≡ 0 → n ≡ 0
no_size n x h = eq_of_mul-eq-mul_right (10 ^ x) (one_le_ten x) n 0 (h ∙ sym (zero-mul (10 ^ x)))

same_fields : (a b : DecimalValue) → a.negative ≡ b.negative → a.digits ≡ b.digits → a.up ≡ b.up → a.down ≡ b.down → a ≡ b
same_fields a b e f g h =
    let same : record { negative = a.negative; digits = a.digits; up = a.up; down = a.down } ≡ record { negative = b.negative; digits = b.digits; up = b.up; down = b.down } = cc in
    same

pub normal_once : (a b : DecimalValue) → IsNormal a → IsNormal b → SameValue a b → a ≡ b
unfolding decimal_cmp
normal_once a b na nb h =
    let sizes = equal_sizes a.negative b.negative (size_beside a b) (size_beside b a) h in
    elim (cases_eq a.digits 0) [
      | inl e ↦
          let none : b.digits ≡ 0 = no_size b.digits (b.up + a.down) (sym sizes.0 ∙ ap (λ x. x * 10 ^ (a.up + b.down)) e ∙ zero-mul (10 ^ (a.up + b.down))) in
          let pa = na.zero_power e in
          let pb = nb.zero_power none in
          same_fields a b (na.zero_sign e ∙ sym (nb.zero_sign none)) (e ∙ sym none) (omega arith) (omega arith)
      | inr e ↦
          let other : b.digits ≢ 0 = λ f. e (no_size a.digits (a.up + b.down) (sizes.0 ∙ ap (λ x. x * 10 ^ (b.up + a.down)) f ∙ zero-mul (10 ^ (b.up + a.down)))) in
          let split = one_split a.digits b.digits (a.up + b.down) (b.up + a.down) (na.last e) (nb.last other) sizes.0 in
          let powers = same_powers a.up a.down b.up b.down na.one_power nb.one_power split.1 in
          let sign : a.negative ≡ b.negative = elim sizes.1 [
            | inl s ↦ s
            | inr zero_size ↦ absurd (e (no_size a.digits (a.up + b.down) zero_size))
          ] in
          same_fields a b sign split.0 powers.0 powers.1
    ]
