use Rattle.exact_decimal.proofs.ReadBack.{read_back}
use Rattle.exact_decimal.proofs.number_laws.read_back_law.Goals as goal

pub returns : goal.returns
returns c = read_back
