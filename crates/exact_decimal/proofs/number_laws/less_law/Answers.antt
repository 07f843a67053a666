use Rattle.exact_decimal.proofs.NumberOrder.{less_trans}
use Rattle.exact_decimal.proofs.number_laws.less_law.Goals as goal

pub returns : goal.returns
returns c = less_trans
