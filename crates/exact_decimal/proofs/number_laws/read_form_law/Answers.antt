use Rattle.exact_decimal.proofs.Answered.{read_form}
use Rattle.exact_decimal.proofs.number_laws.read_form_law.Goals as goal

pub returns : goal.returns
returns c = read_form
