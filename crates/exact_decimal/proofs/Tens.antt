-- More on powers of ten, and products with them.
use Rattle.std.proofs.Common.{◌≡◌, ◌⊎◌, inl, inr, ℕ, zero, suc, ◌+◌, ◌*◌, ◌^◌, ◌<◌, ◌≤◌, refl, sym, arith, mul_assoc}
use Rattle.std.proofs.Math.Nat.{pow-suc, le-mul_of_pos_right}
use Rattle.std.proofs.lemmas.Bool.{cases_lt}
use Rattle.exact_decimal.proofs.Powers.{one_le_ten, ten_up, times_low}

-- a product with a power of ten is no smaller
pub times-le : (v x : ℕ) → v ≤ v * 10 ^ x
times-le v x = le-mul_of_pos_right v (one_le_ten x)

-- 128 bits hold 10 ^ 38
pub fits_128 : (power : ℕ) → power ≤ 38 → 10 ^ power < 2 ^ 128
fits_128 power h = let p : 10 ^ power ≤ 10 ^ 38 = ten_up power 38 h in omega arith

-- 128 bits hold no number from 10 ^ 39 on
pub exceeds_128 : (digits power : ℕ) → 0 < digits → 38 < power → 2 ^ 128 ≤ digits * 10 ^ power
exceeds_128 digits power some far =
    let p : 10 ^ 39 ≤ 10 ^ power = ten_up 39 power (omega arith) in
    let q : 10 ^ (0 + power) ≤ digits * 10 ^ power = times_low 0 power digits (omega arith) in
    let e : 0 + power ≡ power = omega arith in
    let r : 10 ^ power ≤ digits * 10 ^ power = rw e at q in omega arith

-- one of two powers is 0
pub one_zero : (up down : ℕ) → up * down ≡ 0 → (up ≡ 0) ⊎ (down ≡ 0)
one_zero up zero e = inr refl
one_zero up (suc d) e = inl (omega arith)

-- a point in front of all digits: no power multiplies
pub no_up : (up down places : ℕ) → up * down ≡ 0 → 0 < places → places ≤ down → up ≡ 0
no_up up down places e some h = elim (one_zero up down e) [ inl z ↦ z | inr z ↦ absurd (omega arith) ]

-- one zero more
pub times-suc : (m k : ℕ) → m * 10 ^ suc k ≡ m * 10 ^ k * 10
times-suc m k = rw pow-suc (sym (mul_assoc m (10 ^ k) 10))

-- a power below a power
pub below_from_powers : (i j : ℕ) → 10 ^ i < 10 ^ j → i < j
below_from_powers i j h =
    elim (cases_lt i j) [ inl l ↦ l | inr g ↦ let p : 10 ^ j ≤ 10 ^ i = ten_up j i g in absurd (omega arith) ]
