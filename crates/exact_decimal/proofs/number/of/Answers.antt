use Rattle.exact_decimal.proofs.Reading.{whole_number}
use Rattle.exact_decimal.proofs.number.of.Goals as goal

pub returns : goal.returns
returns c = whole_number c.args.n _ c.ranges.n.fits c.short_decimal.ensures
