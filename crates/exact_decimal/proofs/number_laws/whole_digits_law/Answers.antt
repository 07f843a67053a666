use Rattle.exact_decimal.proofs.Answered.{whole_digits}
use Rattle.exact_decimal.proofs.number_laws.whole_digits_law.Goals as goal

pub returns : goal.returns
returns c = whole_digits
