use Rattle.exact_decimal.proofs.Kept.{too_many_at}
use Rattle.exact_decimal.proofs.digits.Kept.push_all.Goals as goal

pub returns-in_default-clause-keeps : goal.returns-in_default-clause-keeps
returns-in_default-clause-keeps c = λ ds h k. too_many_at ds _ _ c.loop-digit-test.true h c.requires.digits (c.in_default.ensures.keeps _ (c.loop-digit.invariant.keeps ds k))
