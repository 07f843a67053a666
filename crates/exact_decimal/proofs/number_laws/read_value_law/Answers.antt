use Rattle.exact_decimal.proofs.Answered.{read_value}
use Rattle.exact_decimal.proofs.number_laws.read_value_law.Goals as goal

pub returns : goal.returns
returns c = read_value
