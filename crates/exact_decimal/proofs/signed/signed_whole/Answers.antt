use Rattle.exact_decimal.proofs.SignedWholes.{signed_number}
use Rattle.exact_decimal.proofs.signed.signed_whole.Goals as goal

pub returns : goal.returns
returns c = signed_number c.args.negative c.args.n _ c.ranges.n.fits c.short_decimal.ensures
