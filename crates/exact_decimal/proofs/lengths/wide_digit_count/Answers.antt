use Rattle.std.proofs.Common.{sym, arith}
use Rattle.exact_decimal.proofs.LiteralLengths.{length_decimal}
use Rattle.exact_decimal.proofs.lengths.wide_digit_count.Goals as goal

pub returns-clause-digits : goal.returns-clause-digits
returns-clause-digits c = sym (length_decimal c.args.n c.ilog10.result (omega arith) c.ilog10.ensures.power_le c.ilog10.ensures.next_power_gt)
