use Rattle.std.proofs.Common.{sym}
use Rattle.exact_decimal.specs.Scans.{pointed, pointless}
use Rattle.exact_decimal.proofs.token.split_fraction.Goals as goal

pub returns-in-Some : goal.returns-in-Some
returns-in-Some c = pointed (sym c.in-Some.ensures) c.split_digits.ensures

pub returns-in-None : goal.returns-in-None
returns-in-None c = pointless (sym c.in-None.ensures)
