use Rattle.std.proofs.Common.{sym}
use Rattle.exact_decimal.proofs.LiteralLengths.{length_pointed_whole, length_pointed_within}
use Rattle.exact_decimal.proofs.lengths.pointed_len.Goals as goal

pub returns-then-places-before-clause-pointed : goal.returns-then-places-before-clause-pointed
returns-then-places-before-clause-pointed c = λ digits e. sym (length_pointed_whole digits c.args.places c.args.before e c.if-places-before.true)

pub returns-else-places-before-clause-pointed : goal.returns-else-places-before-clause-pointed
returns-else-places-before-clause-pointed c = λ digits e. sym (length_pointed_within digits c.args.places c.args.before e c.if-places-before.false)
