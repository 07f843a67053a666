use Rattle.std.proofs.Common.{arith}
use Rattle.exact_decimal.proofs.WholeNumbers.{tenth}
use Rattle.exact_decimal.proofs.short.strip.Goals as goal

pub loop-digits-preserved : goal.loop-digits-preserved
loop-digits-preserved c = record {
  value = tenth _ _ _ c.loop-digits.invariant.value c.loop-digits-test.true;
  some = λ e. c.loop-digits.invariant.some (omega (arith, e));
  few = omega arith;
}
