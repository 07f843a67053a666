-- The whole number that a decimal begins with.
use Rattle.std.proofs.Common.{◌≡◌, ◌≢◌, false, ℕ, zero, suc, ◌+◌, ◌-◌, ◌*◌, ◌/◌, ◌%◌, ◌^◌, ◌<◌, ◌≤◌, sym, ◌∙◌, ap, arith}
use Rattle.std.proofs.Math.Nat.{mul-div_cancel, div-div-eq-div-mul, div-eq_of_lt, mul-mod_left}
use Rattle.std.proofs.lemmas.Nat.{pow-add, div-add-mod'}
use Rattle.std.proofs.lemmas.Bool.Decides.{nat_tests}
use Rattle.exact_decimal.specs.Decimals.{DecimalValue, IsNormal}
use Rattle.exact_decimal.specs.Order.{floor_of, is_exact}
use Rattle.exact_decimal.proofs.Powers.{one_le_ten, ten_up, times_zeros}
use Rattle.exact_decimal.proofs.Tens.{times-suc, no_up}

-- no more powers divide than multiply
pub floor_of-up : (digits up down : ℕ) → down ≤ up → floor_of digits up down ≡ digits * 10 ^ (up - down)
floor_of-up digits up down h =
    let e : digits * 10 ^ (up - down) * 10 ^ down ≡ digits * 10 ^ (up - down + down) = times_zeros digits (up - down) down in
    let f : up - down + down ≡ up = omega arith in
    let g : digits * 10 ^ (up - down) * 10 ^ down ≡ digits * 10 ^ up = rw f at e in
    rw (← g) (mul-div_cancel (digits * 10 ^ (up - down)) (one_le_ten down))

-- more powers divide than multiply
pub floor_of-down : (digits up down : ℕ) → up ≤ down → floor_of digits up down ≡ digits / 10 ^ (down - up)
floor_of-down digits up down h =
    let f : up + (down - up) ≡ down = omega arith in
    let e : 10 ^ (up + (down - up)) ≡ 10 ^ up * 10 ^ (down - up) = pow-add 10 up (down - up) in
    let g : 10 ^ down ≡ 10 ^ up * 10 ^ (down - up) = rw f at e in
    let d : digits * 10 ^ up / 10 ^ up / 10 ^ (down - up) ≡ digits * 10 ^ up / (10 ^ up * 10 ^ (down - up)) = div-div-eq-div-mul _ _ _ in
    let m : digits * 10 ^ up / 10 ^ up ≡ digits = mul-div_cancel digits (one_le_ten up) in
    rw g (sym d ∙ ap (λ (n : ℕ). n / 10 ^ (down - up)) m)

-- a power that exceeds all digits leaves nothing
pub floor_of-far : (digits up down : ℕ) → digits < 10 ^ 38 → up ≤ down → 38 < down - up → floor_of digits up down ≡ 0
floor_of-far digits up down few h far =
    let p : 10 ^ 38 ≤ 10 ^ (down - up) = ten_up 38 (down - up) (omega arith) in
    let q : digits < 10 ^ (down - up) = omega arith in
    floor_of-down digits up down h ∙ div-eq_of_lt q

-- a number whose last digit isn't 0 is no multiple of a power of ten
no_multiple : (n k : ℕ) → n % 10 ≢ 0 → 0 < k → n % 10 ^ k ≢ 0
no_multiple n zero last some e = absurd (omega arith)
no_multiple n (suc k) last some e =
    let whole : n / 10 ^ suc k * 10 ^ suc k + n % 10 ^ suc k ≡ n = div-add-mod' n (10 ^ suc k) in
    let tens : n / 10 ^ suc k * 10 ^ suc k ≡ n / 10 ^ suc k * 10 ^ k * 10 = times-suc (n / 10 ^ suc k) k in
    let f : n ≡ n / 10 ^ suc k * 10 ^ k * 10 = omega arith in
    last (rw f (mul-mod_left (n / 10 ^ suc k * 10 ^ k) 10))

-- in the one form a decimal whose last digit stands behind the point isn't whole
pub not_exact : (d : DecimalValue) → IsNormal d → 0 < d.down → is_exact d.digits d.up d.down ≡ false
not_exact d n some =
    let nonzero : d.digits ≢ 0 = λ z. let e : d.up + d.down ≡ 0 = n.zero_power z in omega arith in
    let e : d.up ≡ 0 = no_up d.up d.down 1 n.one_power (omega arith) some in
    let rest : d.digits % 10 ^ d.down ≢ 0 = no_multiple d.digits d.down (n.last nonzero) some in
    let one : d.digits * 10 ^ 0 ≡ d.digits = omega arith in
    rw (e, one) (grind (arith, nat_tests))
