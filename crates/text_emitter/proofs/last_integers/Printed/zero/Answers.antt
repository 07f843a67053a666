use Rattle.std.proofs.Common.{arith, sym}
use Rattle.std.proofs.lemmas.Fmt.{decimal_digit}
use Rattle.text_emitter.proofs.last_integers.Printed.zero.Goals as goal

pub invariant_of-result : goal.invariant_of-result
invariant_of-result c = record { inside = omega arith; printed = sym (decimal_digit 0 (omega arith)) }
