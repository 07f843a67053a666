use Rattle.exact_decimal.proofs.LiteralLengths.{length_plain_long, length_plain_short}
use Rattle.exact_decimal.proofs.lengths.plain_len.Goals as goal

pub returns-then-down-places-clause-plain : goal.returns-then-down-places-clause-plain
returns-then-down-places-clause-plain c = λ digits e. length_plain_long digits c.args.places c.args.up c.args.down _ c.requires.2 e c.if-down-places.true (c.pointed_len.ensures.pointed digits e)

pub returns-else-down-places-clause-plain : goal.returns-else-down-places-clause-plain
returns-else-down-places-clause-plain c = λ digits e. length_plain_short digits c.args.places c.args.up c.args.down c.requires.2 e c.requires.0 c.if-down-places.false
