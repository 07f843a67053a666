use Rattle.exact_decimal.proofs.Answered.{not_a_number}
use Rattle.exact_decimal.proofs.number_laws.not_a_number_law.Goals as goal

pub returns : goal.returns
returns c = not_a_number
