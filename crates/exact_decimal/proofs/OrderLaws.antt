-- The order of decimals is total, and finds equal in it only what is one.
use Rattle.std.proofs.Common.{◌≡◌, ℕ, zero, suc, ◌+◌, ◌*◌, ◌^◌, ◌<◌, Bool, true, false, refl, sym, ◌∙◌, ap, arith, ◌==◌}
use Rattle.std.proofs.lemmas.Bool.Decides.{nat_tests}
use Rattle.std.proofs.lemmas.Cmp.{nat_cmp_total}
use Rattle.std.specs.Cmp.{IsTotalOrder}
use Rattle.std.specs.Ordering.{ordering_reverse}
use Rattle.std.specs.declared.cmp.Ordering.TheVariants.{Less, Equal}
use Rattle.exact_decimal.specs.Decimals.{DecimalValue, size_beside, signed_cmp, decimal_cmp}
use Rattle.exact_decimal.proofs.Powers.{one_le_ten, times_zeros}
use Rattle.exact_decimal.proofs.Comparing.{nat_cmp-times, nat_cmp-reverse, same_from_cmp}

-- ---- the order of sizes with signs

-- turned round
signed_reverse : (s t : Bool) (x y : ℕ) → signed_cmp s x t y ≡ ordering_reverse (signed_cmp t y s x)
signed_reverse false false x y = sym (nat_cmp-reverse y x)
signed_reverse true true x y = sym (nat_cmp-reverse x y)
signed_reverse true false x y = grind (arith, nat_tests)
signed_reverse false true x y = grind (arith, nat_tests)

-- one below the next, and that one below a third
signed_trans : (s t u : Bool) (x y z : ℕ) → signed_cmp s x t y ≡ Less → signed_cmp t y u z ≡ Less → signed_cmp s x u z ≡ Less
signed_trans false false false x y z p q = nat_cmp_total.trans x y z p q
signed_trans true true true x y z p q = nat_cmp_total.trans z y x q p
signed_trans true false false x y z p q = grind (arith, nat_tests)
signed_trans true true false x y z p q = grind (arith, nat_tests)
signed_trans true false true x y z p q = grind (arith, nat_tests)
signed_trans false true false x y z p q = grind (arith, nat_tests)
signed_trans false true true x y z p q = grind (arith, nat_tests)
signed_trans false false true x y z p q = grind (arith, nat_tests)

-- sizes with different signs are equal where both are 0
zero_from_below : (x y : ℕ) → signed_cmp true x false y ≡ Equal → (x ≡ 0) × (y ≡ 0)
zero_from_below x y p = (grind (arith, nat_tests), grind (arith, nat_tests))

-- the same, with the signs turned round
zero_from_above : (x y : ℕ) → signed_cmp false x true y ≡ Equal → (x ≡ 0) × (y ≡ 0)
zero_from_above x y p = (grind (arith, nat_tests), grind (arith, nat_tests))

-- what is equal compares alike with a third
signed_congr : (s t u : Bool) (x y z : ℕ) → signed_cmp s x t y ≡ Equal → signed_cmp s x u z ≡ signed_cmp t y u z
signed_congr false false u x y z p = ap (λ (n : ℕ). signed_cmp false n u z) (same_from_cmp x y p)
signed_congr true true u x y z p = ap (λ (n : ℕ). signed_cmp true n u z) (sym (same_from_cmp y x p))
signed_congr true false true x y z p = let e = zero_from_below x y p in rw (e.0, e.1) (grind (arith, nat_tests))
signed_congr true false false x y z p = let e = zero_from_below x y p in rw (e.0, e.1) (grind (arith, nat_tests))
signed_congr false true true x y z p = let e = zero_from_above x y p in rw (e.0, e.1) (grind (arith, nat_tests))
signed_congr false true false x y z p = let e = zero_from_above x y p in rw (e.0, e.1) (grind (arith, nat_tests))

-- a common factor keeps what is 0
eqb-times : (x k : ℕ) → 0 < k → (x * k == 0) ≡ (x == 0)
eqb-times zero k p = let e : 0 * k ≡ 0 = omega arith in rw e refl
eqb-times (suc x) k p = let q : 0 < suc x * k = omega arith in grind (arith, nat_tests)

-- a common factor keeps the order
signed_cmp-times : (s t : Bool) (x y k : ℕ) → 0 < k → signed_cmp s (x * k) t (y * k) ≡ signed_cmp s x t y
signed_cmp-times false false x y k p = nat_cmp-times x y k p
signed_cmp-times true true x y k p = nat_cmp-times y x k p
signed_cmp-times true false x y k p = rw (eqb-times x k p, eqb-times y k p) refl
signed_cmp-times false true x y k p = rw (eqb-times x k p, eqb-times y k p) refl

-- ---- the order of decimals

-- two decimals in one unit, which may be smaller than both of theirs
cmp_in_unit : (a b : DecimalValue) (i j k : ℕ) → i ≡ a.up + b.down + k → j ≡ b.up + a.down + k → decimal_cmp a b ≡ signed_cmp a.negative (a.digits * 10 ^ i) b.negative (b.digits * 10 ^ j)
unfolding decimal_cmp
cmp_in_unit a b i j k e f =
    let x : size_beside a b * 10 ^ k ≡ a.digits * 10 ^ (a.up + b.down + k) = times_zeros a.digits (a.up + b.down) k in
    let y : size_beside b a * 10 ^ k ≡ b.digits * 10 ^ (b.up + a.down + k) = times_zeros b.digits (b.up + a.down) k in
    rw (e, f, ← x, ← y) (sym (signed_cmp-times a.negative b.negative (size_beside a b) (size_beside b a) (10 ^ k) (one_le_ten k)))

-- three decimals in one unit: with these factors each two of them compare as their sizes do
record InOneUnit (a b c : DecimalValue) : Type 0 where
  x : ℕ
  y : ℕ
  z : ℕ
  first : decimal_cmp a b ≡ signed_cmp a.negative x b.negative y
  second : decimal_cmp b c ≡ signed_cmp b.negative y c.negative z
  outer : decimal_cmp a c ≡ signed_cmp a.negative x c.negative z

in_one_unit : (a b c : DecimalValue) → InOneUnit a b c
in_one_unit a b c =
    let i : ℕ = a.up + b.down + c.down in
    let j : ℕ = b.up + a.down + c.down in
    let k : ℕ = c.up + a.down + b.down in
    record {
      x = a.digits * 10 ^ i;
      y = b.digits * 10 ^ j;
      z = c.digits * 10 ^ k;
      first = cmp_in_unit a b i j c.down (omega arith) (omega arith);
      second = cmp_in_unit b c j k a.down (omega arith) (omega arith);
      outer = cmp_in_unit a c i k b.down (omega arith) (omega arith);
    }

-- turned round
decimal_reverse : (a b : DecimalValue) → decimal_cmp a b ≡ ordering_reverse (decimal_cmp b a)
unfolding decimal_cmp
decimal_reverse a b = signed_reverse a.negative b.negative (size_beside a b) (size_beside b a)

-- one below the next, and that one below a third
decimal_trans : (a b c : DecimalValue) → decimal_cmp a b ≡ Less → decimal_cmp b c ≡ Less → decimal_cmp a c ≡ Less
decimal_trans a b c p q =
    let u = in_one_unit a b c in
    u.outer ∙ signed_trans a.negative b.negative c.negative u.x u.y u.z (sym u.first ∙ p) (sym u.second ∙ q)

-- what is equal compares alike with a third
decimal_congr : (a b c : DecimalValue) → decimal_cmp a b ≡ Equal → decimal_cmp a c ≡ decimal_cmp b c
decimal_congr a b c p =
    let u = in_one_unit a b c in
    u.outer ∙ signed_congr a.negative b.negative c.negative u.x u.y u.z (sym u.first ∙ p) ∙ sym u.second

-- the order is total
pub decimal_cmp_total : IsTotalOrder decimal_cmp
decimal_cmp_total = record { antisymm = decimal_reverse; trans = decimal_trans; congr = decimal_congr }
