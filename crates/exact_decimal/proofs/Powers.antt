-- Powers of ten, and numbers that ten does not divide.
use Rattle.std.proofs.Common.{◌≡◌, ◌≢◌, ℕ, suc, ◌+◌, ◌-◌, ◌*◌, ◌^◌, ◌%◌, ◌<◌, ◌≤◌, sym, ap, ◌∙◌, inl, inr, arith, lit≤}
use Rattle.std.proofs.Math.Nat.{pow-suc, one-le-pow, pow-le-pow_right, mul_assoc, mul-le-mul_right}
use Rattle.std.proofs.lemmas.Nat.{pow-add}
use Rattle.std.proofs.lemmas.Bool.{cases_order, cases_eq}

pub one_le_ten : (n : ℕ) → 1 ≤ 10 ^ n
one_le_ten n = one-le-pow n 10 (omega arith)

pub ten_up : (i j : ℕ) → i ≤ j → 10 ^ i ≤ 10 ^ j
ten_up i j h = pow-le-pow_right {n = 10} (omega arith) h

-- with x zeros behind it, a number has x places more
pub times_low : (n x v : ℕ) → 10 ^ n ≤ v → 10 ^ (n + x) ≤ v * 10 ^ x
times_low n x v h = rw (pow-add 10 n x) (mul-le-mul_right (10 ^ x) h)

pub times_high : (n x v : ℕ) → v < 10 ^ n → v * 10 ^ x < 10 ^ (n + x)
times_high n x v h =
    let one = one_le_ten x in
    let more : suc v * 10 ^ x ≤ 10 ^ n * 10 ^ x = mul-le-mul_right (10 ^ x) h in
    let step : suc v * 10 ^ x ≡ v * 10 ^ x + 10 ^ x = omega arith in
    rw (pow-add 10 n x) (omega arith)

pub times_zeros : (v z x : ℕ) → v * 10 ^ z * 10 ^ x ≡ v * 10 ^ (z + x)
times_zeros v z x = mul_assoc v (10 ^ z) (10 ^ x) ∙ ap (λ p. v * p) (sym (pow-add 10 z x))

-- a number with a zero behind it
pub ends_in_zero : (v k : ℕ) → (v * 10 ^ suc k) % 10 ≡ 0
ends_in_zero v k =
    let e : v * 10 ^ suc k ≡ v * 10 ^ k * 10 = ap (λ p. v * p) (pow-suc 10 k) ∙ sym (mul_assoc v (10 ^ k) 10) in
    omega arith

-- a factor of ten is cancelled
cancel : (n m x : ℕ) → n * 10 ^ x ≡ m * 10 ^ x → n ≡ m
cancel n m x h = elim (cases_order n m) [
  | inl e ↦ e
  | inr (inl lt) ↦ let k : suc n * 10 ^ x ≤ m * 10 ^ x = mul-le-mul_right (10 ^ x) lt in let one = one_le_ten x in absurd (omega arith)
  | inr (inr lt) ↦ let k : suc m * 10 ^ x ≤ n * 10 ^ x = mul-le-mul_right (10 ^ x) lt in let one = one_le_ten x in absurd (omega arith)
]

-- what has more zeros behind it ends in one
no_more : (n m s t : ℕ) → n % 10 ≢ 0 → n * 10 ^ s ≡ m * 10 ^ t → s < t → ⊥
no_more n m s t a h lt =
    let k = t - s - 1 in
    let e : suc k + s ≡ t = omega arith in
    let f : n * 10 ^ s ≡ m * 10 ^ suc k * 10 ^ s = h ∙ ap (λ x. m * 10 ^ x) (sym e) ∙ sym (times_zeros m (suc k) s) in
    a (ap (λ x. x % 10) (cancel n (m * 10 ^ suc k) s f) ∙ ends_in_zero m k)

-- ten is taken out of a number in one way
pub one_split : (n m s t : ℕ) → n % 10 ≢ 0 → m % 10 ≢ 0 → n * 10 ^ s ≡ m * 10 ^ t → (n ≡ m) × (s ≡ t)
one_split n m s t a b h = elim (cases_order s t) [
  | inl e ↦ (cancel n m s (h ∙ ap (λ x. m * 10 ^ x) (sym e)), e)
  | inr (inl lt) ↦ absurd (no_more n m s t a h lt)
  | inr (inr lt) ↦ absurd (no_more m n t s b (sym h) lt)
]

-- ---- a digit d behind a number n of p places and z zeros

pub low_push : (d n z p : ℕ) → (0 < p → 10 ^ (p - 1) ≤ n) → (p ≡ 0 → z ≡ 0) → 0 < d → 10 ^ (p + z + 1 - 1) ≤ n * 10 ^ (z + 1) + d
low_push d n z p low nothing some = elim (cases_eq p 0) [
  | inl e ↦ let none : p + z + 1 - 1 ≡ 0 = omega (arith, nothing e) in let one : 10 ^ (p + z + 1 - 1) ≡ 1 = ap (λ x. 10 ^ x) none in omega arith
  | inr e ↦
      let more : 10 ^ (p - 1 + (z + 1)) ≤ n * 10 ^ (z + 1) = times_low (p - 1) (z + 1) n (low (omega arith)) in
      let sums : p + z + 1 - 1 ≡ p - 1 + (z + 1) = omega arith in
      let same : 10 ^ (p + z + 1 - 1) ≡ 10 ^ (p - 1 + (z + 1)) = ap (λ x. 10 ^ x) sums in
      omega arith
]

pub high_push : (d n z p : ℕ) → n < 10 ^ p → d < 10 → n * 10 ^ (z + 1) + d < 10 ^ (p + z + 1)
high_push d n z p high small =
    let more : suc n * 10 ^ (z + 1) ≤ 10 ^ p * 10 ^ (z + 1) = mul-le-mul_right (10 ^ (z + 1)) high in
    let step : suc n * 10 ^ (z + 1) ≡ n * 10 ^ (z + 1) + 10 ^ (z + 1) = omega arith in
    let ten : 10 ^ 1 ≤ 10 ^ (z + 1) = ten_up 1 (z + 1) (omega arith) in
    let sums : p + z + 1 ≡ p + (z + 1) = omega arith in
    let whole : 10 ^ (p + z + 1) ≡ 10 ^ p * 10 ^ (z + 1) = ap (λ x. 10 ^ x) sums ∙ pow-add 10 p (z + 1) in
    omega arith

pub last_push : (d n z : ℕ) → 0 < d → d < 10 → (n * 10 ^ (z + 1) + d) % 10 ≢ 0
last_push d n z some small h =
    let e : n * 10 ^ (z + 1) ≡ n * 10 ^ z * 10 = sym (times_zeros n z 1) in
    let f : n * 10 ^ (z + 1) + d ≡ n * 10 ^ z * 10 + d = ap (λ x. x + d) e in
    let g : (n * 10 ^ z * 10 + d) % 10 ≡ 0 = sym (ap (λ x. x % 10) f) ∙ h in
    omega (arith, g)

pub push_fits : (d n z p : ℕ) → n < 10 ^ p → d < 10 → p + z + 1 ≤ 38 → n * 10 ^ (z + 1) + d < 2 ^ 128
push_fits d n z p high small few =
    let below = high_push d n z p high small in
    let room : 10 ^ (p + z + 1) ≤ 10 ^ 38 = ten_up (p + z + 1) 38 few in
    let wide : 10 ^ 38 ≤ 2 ^ 128 = lit≤ tt in
    omega arith
