use Rattle.page_model.proofs.Least.{fault_is_least}
use Rattle.page_model.proofs.page_laws.fault_is_least.Goals as goal

pub returns : goal.returns
returns c = fault_is_least
