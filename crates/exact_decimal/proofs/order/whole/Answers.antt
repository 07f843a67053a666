use Rattle.std.proofs.Common.{refl, arith}
use Rattle.exact_decimal.proofs.Flooring.{not_exact}
use Rattle.exact_decimal.specs.Order.{whole}
use Rattle.exact_decimal.proofs.order.whole.Goals as goal

pub returns-then-down-gt0 : goal.returns-then-down-gt0
unfolding whole
returns-then-down-gt0 c = rw (c.in-Finite.is, ← c.if-negative.ensures.negative, not_exact _ c.down.ensures.normal (omega arith)) refl
