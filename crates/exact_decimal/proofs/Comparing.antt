-- The order of two decimals from the order of their sizes, and its laws.
use Rattle.std.proofs.Common.{◌≡◌, ℕ, suc, ◌+◌, ◌-◌, ◌*◌, ◌^◌, ◌<◌, ◌≤◌, true, false, refl, sym, ap, arith}
use Rattle.std.proofs.Math.Nat.{mul-le-mul_right, pos_of_ne-zero}
use Rattle.std.proofs.lemmas.Bool.Decides.{nat_tests}
use Rattle.std.proofs.lemmas.Cmp.{nat_cmp_total}
use Rattle.std.specs.Ordering.{nat_cmp, ordering_reverse}
use Rattle.std.specs.declared.cmp.Ordering.TheVariants.{Less, Equal, Greater}
use Rattle.exact_decimal.specs.Decimals.{DecimalValue, size_beside, decimal_cmp, IsNormal}
use Rattle.exact_decimal.proofs.Powers.{one_le_ten, times_zeros}

-- numbers that compare as equal are one
pub same_from_cmp : (x y : ℕ) → nat_cmp x y ≡ Equal → x ≡ y
same_from_cmp x y p = grind (arith, nat_tests)

-- a product above another comes from the greater factor
lt_of_times : (x y k : ℕ) → x < y → 0 < k → x * k < y * k
lt_of_times x y k h p = let q : suc x * k ≤ y * k = mul-le-mul_right k h in omega arith

-- a common factor keeps the order
pub nat_cmp-times : (x y k : ℕ) → 0 < k → nat_cmp (x * k) (y * k) ≡ nat_cmp x y
nat_cmp-times x y k p =
    let below : x < y → x * k < y * k = λ h. lt_of_times x y k h p in
    let above : y < x → y * k < x * k = λ h. lt_of_times y x k h p in
    let same : x ≡ y → x * k ≡ y * k = λ e. ap (λ (n : ℕ). n * k) e in
    grind (arith, nat_tests)

-- the smaller of two powers is taken from both
pub nat_cmp-scaled : (x y p q : ℕ) → q ≤ p → nat_cmp (x * 10 ^ (p - q)) y ≡ nat_cmp (x * 10 ^ p) (y * 10 ^ q)
nat_cmp-scaled x y p q h =
    let e : x * 10 ^ (p - q) * 10 ^ q ≡ x * 10 ^ (p - q + q) = times_zeros x (p - q) q in
    let f : p - q + q ≡ p = omega arith in
    let g : x * 10 ^ (p - q) * 10 ^ q ≡ x * 10 ^ p = rw f at e in
    rw (← g) (sym (nat_cmp-times (x * 10 ^ (p - q)) y (10 ^ q) (one_le_ten q)))

-- the order of two that aren't negative
pub cmp_positive : (a b : DecimalValue) → a.negative ≡ false → b.negative ≡ false → decimal_cmp a b ≡ nat_cmp (size_beside a b) (size_beside b a)
unfolding decimal_cmp
cmp_positive a b e f = rw (e, f) refl

-- the order of two that are negative
pub cmp_negative : (a b : DecimalValue) → a.negative ≡ true → b.negative ≡ true → decimal_cmp a b ≡ nat_cmp (size_beside b a) (size_beside a b)
unfolding decimal_cmp
cmp_negative a b e f = rw (e, f) refl

-- a decimal with a sign isn't zero, in any unit
some_size : (a b : DecimalValue) → IsNormal a → a.negative ≡ true → 0 < size_beside a b
some_size a b n e =
    let p : 0 < 10 ^ (a.up + b.down) = one_le_ten (a.up + b.down) in
    let q : 0 < a.digits = pos_of_ne-zero (λ (z : a.digits ≡ 0). let f : a.negative ≡ false = n.zero_sign z in cc) in
    let r : 1 * 10 ^ (a.up + b.down) ≤ a.digits * 10 ^ (a.up + b.down) = mul-le-mul_right (10 ^ (a.up + b.down)) q in omega arith

-- a negative one is below one that isn't
pub cmp_below : (a b : DecimalValue) → IsNormal a → a.negative ≡ true → b.negative ≡ false → decimal_cmp a b ≡ Less
unfolding decimal_cmp
cmp_below a b n e f = let p : 0 < size_beside a b = some_size a b n e in rw (e, f) (grind (arith, nat_tests))

-- one that isn't negative is above one that is
pub cmp_above : (a b : DecimalValue) → IsNormal b → a.negative ≡ false → b.negative ≡ true → decimal_cmp a b ≡ Greater
unfolding decimal_cmp
cmp_above a b n e f = let p : 0 < size_beside b a = some_size b a n f in rw (e, f) (grind (arith, nat_tests))

-- the order of two numbers turned round
pub nat_cmp-reverse : (x y : ℕ) → ordering_reverse (nat_cmp x y) ≡ nat_cmp y x
nat_cmp-reverse x y = sym (nat_cmp_total.antisymm y x)
