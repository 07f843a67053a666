use Rattle.std.proofs.Common.{arith}
use Rattle.exact_decimal.proofs.Tens.{fits_128, exceeds_128}
use Rattle.exact_decimal.proofs.order.scaled.Goals as goal

pub returns-then-power-gt38 : goal.returns-then-power-gt38
returns-then-power-gt38 c = omega (arith, exceeds_128 c.args.digits c.args.power (omega arith) (omega arith))

pub pow-requires : goal.pow-requires
pow-requires c = fits_128 _ (omega arith)
