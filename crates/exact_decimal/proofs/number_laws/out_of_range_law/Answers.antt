use Rattle.exact_decimal.proofs.Answered.{out_of_range}
use Rattle.exact_decimal.proofs.number_laws.out_of_range_law.Goals as goal

pub returns : goal.returns
returns c = out_of_range
