-- The order of numbers: whole numbers among them, and one number and its one form.
use Rattle.std.proofs.Common.{◌≡◌, ◌↔◌, ℕ, ◌+◌, ◌*◌, ◌/◌, ◌%◌, ◌^◌, Bool, true, false, not, ◌&&◌, ◌==◌, Some, None, nat_lt, cond, refl, sym, ◌∙◌, ap, arith}
use Rattle.std.proofs.lemmas.Bool.Decides.{nat_tests}
use Rattle.std.proofs.lemmas.Bool.{and_parts, eqb-true}
use Rattle.std.proofs.lemmas.Nat.{div-add-mod'}
use Rattle.std.specs.Ordering.{nat_cmp, is_lt, is_eq}
use Rattle.std.specs.declared.cmp.Ordering.{Ordering}
use Rattle.std.specs.declared.cmp.Ordering.TheVariants.{Less, Equal, Greater}
use Rattle.exact_decimal.specs.declared.number.Number.{Number}
use Rattle.exact_decimal.specs.declared.number.Number.TheVariants.{Finite, Up, Down, NotANumber}
use Rattle.exact_decimal.specs.Decimals.{DecimalValue, IsNormal, size_beside, decimal_cmp}
use Rattle.exact_decimal.specs.Order.{less, same, whole, is_exact, floor_of, in_64_bits}
use Rattle.exact_decimal.proofs.Powers.{one_le_ten, times_zeros}
use Rattle.exact_decimal.proofs.Comparing.{nat_cmp-times, cmp_positive}
use Rattle.exact_decimal.proofs.OrderLaws.{decimal_cmp_total}
use Rattle.exact_decimal.proofs.Values.{normal_once, same_size}

-- ---- whole numbers

-- a decimal that is the whole number n
pub record IsWhole (d : DecimalValue) (n : ℕ) : Type 0 where
  pub positive : d.negative ≡ false
  pub is : d.digits * 10 ^ d.up ≡ n * 10 ^ d.down

-- the number that 64 bits hold
held : (n m : ℕ) → in_64_bits n ≡ Some m → n ≡ m
held n m e = go (nat_lt n (2 ^ 64)) e
  where
    go : (t : Bool) → cond t (Some n) None ≡ Some m → n ≡ m
    go true f = cc
    go false f = absurd cc

-- an exact quotient
exact_quotient : (x y : ℕ) → (x % y == 0) ≡ true → x ≡ x / y * y
exact_quotient x y e = let whole = div-add-mod' x y in let none : x % y ≡ 0 = eqb-true (x % y) 0 e in omega arith

whole_from : (d : DecimalValue) (n : ℕ) (t : Bool) → (not d.negative && is_exact d.digits d.up d.down) ≡ t → cond t (in_64_bits (floor_of d.digits d.up d.down)) None ≡ Some n → IsWhole d n
whole_from d n false e f = absurd cc
whole_from d n true e f =
    let both = and_parts (not d.negative) (is_exact d.digits d.up d.down) e in
    let floor : floor_of d.digits d.up d.down ≡ n = held _ n f in
    record {
      positive = grind (arith, nat_tests);
      is = exact_quotient (d.digits * 10 ^ d.up) (10 ^ d.down) both.1 ∙ ap (λ (x : ℕ). x * 10 ^ d.down) floor;
    }

-- a number that is whole is a decimal
whole_decimal : (a : Number) (n : ℕ) → whole a ≡ Some n → (d : DecimalValue) × (a ≡ Finite d) × IsWhole d n
unfolding whole
whole_decimal (Finite d) n e = (d, refl, whole_from d n _ refl e)
whole_decimal _ n e = absurd cc

-- decimals that are whole are ordered as the whole numbers are
whole_cmp : (a b : DecimalValue) (n m : ℕ) → IsWhole a n → IsWhole b m → decimal_cmp a b ≡ nat_cmp n m
whole_cmp a b n m p q =
    let x : size_beside a b ≡ n * 10 ^ (a.down + b.down) = sym (times_zeros a.digits a.up b.down) ∙ ap (λ (s : ℕ). s * 10 ^ b.down) p.is ∙ times_zeros n a.down b.down in
    let powers : b.down + a.down ≡ a.down + b.down = omega arith in
    let y : size_beside b a ≡ m * 10 ^ (a.down + b.down) = sym (times_zeros b.digits b.up a.down) ∙ ap (λ (s : ℕ). s * 10 ^ a.down) q.is ∙ times_zeros m b.down a.down ∙ ap (λ (k : ℕ). m * 10 ^ k) powers in
    cmp_positive a b p.positive q.positive ∙ rw (x, y) (nat_cmp-times n m (10 ^ (a.down + b.down)) (one_le_ten (a.down + b.down)))

is_eq-nat_cmp : (n m : ℕ) → is_eq (nat_cmp n m) ≡ (n == m)
is_eq-nat_cmp n m = grind (arith, nat_tests)

is_lt-nat_cmp : (n m : ℕ) → is_lt (nat_cmp n m) ≡ nat_lt n m
is_lt-nat_cmp n m = grind (arith, nat_tests)

-- whole numbers are the same where their values are
pub whole_same : (a b : Number) (n m : ℕ) → whole a ≡ Some n → whole b ≡ Some m → same a b ≡ (n == m)
unfolding same
whole_same a b n m e f =
    let p = whole_decimal a n e in
    let q = whole_decimal b m f in
    rw (p.1, q.1) (ap is_eq (whole_cmp p.0 q.0 n m p.2 q.2) ∙ is_eq-nat_cmp n m)

-- and below one another where their values are
pub whole_less : (a b : Number) (n m : ℕ) → whole a ≡ Some n → whole b ≡ Some m → less a b ≡ nat_lt n m
unfolding less
whole_less a b n m e f =
    let p = whole_decimal a n e in
    let q = whole_decimal b m f in
    rw (p.1, q.1) (ap is_lt (whole_cmp p.0 q.0 n m p.2 q.2) ∙ is_lt-nat_cmp n m)

-- ---- one number and its one form

-- a decimal is the same number as itself
pub same_itself : (d : DecimalValue) → same (Finite d) (Finite d) ≡ true
unfolding same decimal_cmp
same_itself d = ap is_eq (same_size d.negative (size_beside d d) (size_beside d d) refl)

-- decimals that are the same number compare as equal
same_cmp : (o : Ordering) → is_eq o ≡ true → o ≡ Equal
same_cmp Less e = absurd cc
same_cmp Equal e = refl
same_cmp Greater e = absurd cc

less_cmp : (o : Ordering) → is_lt o ≡ true → o ≡ Less
less_cmp Less e = refl
less_cmp Equal e = absurd cc
less_cmp Greater e = absurd cc

-- in the one form they are one
pub same_normal : (a b : DecimalValue) → IsNormal a → IsNormal b → (same (Finite a) (Finite b) ≡ true) ↔ (a ≡ b)
unfolding same
same_normal a b n m = (λ e. normal_once a b n m (same_cmp (decimal_cmp a b) e), λ e. ap (λ (d : DecimalValue). same (Finite a) (Finite d)) (sym e) ∙ same_itself a)

-- ---- one number below the next, and that one below a third

pub less_trans : (a b c : Number) → less a b ≡ true → less b c ≡ true → less a c ≡ true
unfolding less
less_trans (Finite a) (Finite b) (Finite c) e f = ap is_lt (decimal_cmp_total.trans a b c (less_cmp _ e) (less_cmp _ f))
less_trans (Finite a) (Finite b) Up e f = refl
less_trans (Finite a) (Finite b) Down e f = f
less_trans (Finite a) (Finite b) NotANumber e f = f
less_trans (Finite a) Up c e f = absurd cc
less_trans (Finite a) Down c e f = absurd cc
less_trans (Finite a) NotANumber c e f = absurd cc
less_trans Down b (Finite c) e f = refl
less_trans Down b Up e f = refl
less_trans Down (Finite b) Down e f = f
less_trans Down (Finite b) NotANumber e f = f
less_trans Down Up c e f = absurd cc
less_trans Down Down c e f = absurd cc
less_trans Down NotANumber c e f = absurd cc
less_trans Up b c e f = absurd cc
less_trans NotANumber b c e f = absurd cc
