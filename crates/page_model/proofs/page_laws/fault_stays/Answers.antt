use Rattle.page_model.proofs.Prefixes.{fault_stays}
use Rattle.page_model.proofs.Decides.{front_fault}
use Rattle.page_model.proofs.page_laws.fault_stays.Goals as goal

pub returns-clause-lines : goal.returns-clause-lines
returns-clause-lines c = fault_stays

pub returns-clause-texts : goal.returns-clause-texts
returns-clause-texts c = front_fault
