use Rattle.exact_decimal.proofs.Values.{normal_once}
use Rattle.exact_decimal.proofs.number_laws.one_form_law.Goals as goal

pub returns : goal.returns
returns c = normal_once
