use Rattle.exact_decimal.proofs.Answered.{whole_value}
use Rattle.exact_decimal.proofs.number_laws.whole_number_law.Goals as goal

pub returns : goal.returns
returns c = whole_value
