use Rattle.exact_decimal.proofs.OrderLaws.{decimal_cmp_total}
use Rattle.exact_decimal.proofs.number_laws.total_order_law.Goals as goal

pub returns : goal.returns
returns c = decimal_cmp_total
