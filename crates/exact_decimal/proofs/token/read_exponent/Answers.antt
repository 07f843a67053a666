use Rattle.std.proofs.Common.{sym, arith, eqb-true, false-eqb}
use Rattle.exact_decimal.proofs.Parts.{no_tail, unmarked, no_power, power_divides, power_multiplies}
use Rattle.exact_decimal.proofs.token.read_exponent.Goals as goal

pub returns-then-is_empty : goal.returns-then-is_empty
returns-then-is_empty c = no_tail _ (eqb-true _ 0 (sym c.if-is_empty.ensures))

pub returns-in_default : goal.returns-in_default
returns-in_default c = unmarked _ (omega (arith, false-eqb _ 0 c.if-is_empty.ensures)) c.in_default.ensures

pub returns-in_default-capped_value : goal.returns-in_default-capped_value
returns-in_default-capped_value c = no_power _ c.in-Some.behind.now c.in-Some.ensures (rw (← c.split_sign-negative.ensures.rest) c.in_default-capped_value.ensures)

pub returns-then-negative : goal.returns-then-negative
returns-then-negative c = power_divides _ c.in-Some.behind.now _ c.in-Some.ensures (rw (← c.split_sign-negative.ensures.minus) c.if-negative.true) (rw (← c.split_sign-negative.ensures.rest) c.in-Some-capped_value.ensures)

pub returns-else-negative : goal.returns-else-negative
returns-else-negative c = power_multiplies _ c.in-Some.behind.now _ c.in-Some.ensures (rw (← c.split_sign-negative.ensures.minus) c.if-negative.false) (rw (← c.split_sign-negative.ensures.rest) c.in-Some-capped_value.ensures)
