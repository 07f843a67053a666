use Rattle.text_grammar.proofs.Digits.{capped_on}
use Rattle.text_grammar.proofs.stamp.capped_value.Goals as goal

pub loop-digit-preserved : goal.loop-digit-preserved
loop-digit-preserved c = rw (c.min-value.ensures, c.from.ensures) (capped_on c.args.digits.now c.loop-digit.digit-index c.loop-digit.value c.loop-digit-test.true c.requires c.loop-digit.invariant)
