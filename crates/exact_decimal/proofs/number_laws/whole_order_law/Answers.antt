use Rattle.exact_decimal.proofs.NumberOrder.{whole_same, whole_less}
use Rattle.exact_decimal.proofs.number_laws.whole_order_law.Goals as goal

pub returns : goal.returns
returns c = record { same = whole_same; less = whole_less }
