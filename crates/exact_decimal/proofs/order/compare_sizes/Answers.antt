use Rattle.std.proofs.Common.{ℕ, ◌∙◌, ap, arith, ◌*◌, ◌^◌, ◌+◌}
use Rattle.std.specs.Ordering.{ordering_reverse}
use Rattle.exact_decimal.proofs.Comparing.{nat_cmp-scaled, nat_cmp-reverse}
use Rattle.exact_decimal.proofs.order.compare_sizes.Goals as goal

pub returns-then-b_power-a_power : goal.returns-then-b_power-a_power
returns-then-b_power-a_power c =
    rw (← c.up.ensures.up, ← c.down.ensures.down, ← c.up-2.ensures.up, ← c.down-2.ensures.down, ← c.digits.ensures, ← c.digits-then-b_power-a_power.ensures)
    (c.compare_scaled.ensures ∙ nat_cmp-scaled _ _ _ _ c.if-b_power-a_power.true)

pub returns-else-b_power-a_power : goal.returns-else-b_power-a_power
returns-else-b_power-a_power c =
    let a : ℕ = c.digits-else-b_power-a_power-2.result in
    let b : ℕ = c.digits-else-b_power-a_power.result in
    let a_power : ℕ = c.up.result + c.down.result in
    let b_power : ℕ = c.up-2.result + c.down-2.result in
    rw (← c.up.ensures.up, ← c.down.ensures.down, ← c.up-2.ensures.up, ← c.down-2.ensures.down, ← c.digits-else-b_power-a_power.ensures, ← c.digits-else-b_power-a_power-2.ensures)
    (c.reverse.ensures
    ∙ ap ordering_reverse (c.compare_scaled-else-b_power-a_power.ensures ∙ nat_cmp-scaled b a b_power a_power (omega arith))
    ∙ nat_cmp-reverse (b * 10 ^ b_power) (a * 10 ^ a_power))
