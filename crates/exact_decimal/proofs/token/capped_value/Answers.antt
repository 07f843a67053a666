use Rattle.std.proofs.Common.{arith, false-eqb}
use Rattle.exact_decimal.proofs.Runs.{capped_all}
use Rattle.exact_decimal.proofs.token.capped_value.Goals as goal

pub returns : goal.returns
returns c = capped_all _ c.loop-digit.digit-index c.loop-digit.value (omega (arith, false-eqb _ 0 c.if-is_empty.ensures)) c.loop-digit-test.false c.loop-digit.invariant.are_digits c.loop-digit.invariant.capped
