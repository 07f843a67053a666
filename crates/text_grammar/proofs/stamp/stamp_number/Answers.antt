use Rattle.text_grammar.proofs.Digits.{integer_digits}
use Rattle.text_grammar.proofs.stamp.stamp_number.Goals as goal

pub capped_value-size-requires : goal.capped_value-size-requires
capped_value-size-requires c = rw c.split_sign-negative.ensures.rest (integer_digits c.args.token.now c.requires)
