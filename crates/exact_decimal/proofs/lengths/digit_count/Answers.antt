use Rattle.std.proofs.Common.{sym, arith}
use Rattle.exact_decimal.proofs.LiteralLengths.{length_decimal, length_decimal_zero}
use Rattle.exact_decimal.proofs.lengths.digit_count.Goals as goal

pub returns-in-Some-clause-digits : goal.returns-in-Some-clause-digits
returns-in-Some-clause-digits c = sym (length_decimal c.args.n c.in-Some.power (omega arith) c.in-Some.ensures.power_le c.in-Some.ensures.next_power_gt)

pub returns-in-None-clause-digits : goal.returns-in-None-clause-digits
returns-in-None-clause-digits c = rw c.in-None.ensures.none (sym length_decimal_zero)
