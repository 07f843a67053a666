use Rattle.std.proofs.Common.{sym, arith}
use Rattle.text_emitter.proofs.DigitCount.{length_decimal, length_decimal_zero}
use Rattle.text_emitter.proofs.count.digit_count.Goals as goal

pub returns-in-Some : goal.returns-in-Some
returns-in-Some c = rw c.from.ensures (sym (length_decimal c.args.n c.in-Some.power (omega arith) c.in-Some.ensures.power_le c.in-Some.ensures.next_power_gt))

pub returns-in-None : goal.returns-in-None
returns-in-None c = rw c.in-None.ensures.none (sym length_decimal_zero)
