use Rattle.exact_decimal.proofs.NumberOrder.{same_normal}
use Rattle.exact_decimal.proofs.number_laws.same_law.Goals as goal

pub returns : goal.returns
returns c = same_normal
