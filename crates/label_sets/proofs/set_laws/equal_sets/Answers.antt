use Rattle.label_sets.proofs.Same.{sets_decide}
use Rattle.label_sets.proofs.set_laws.equal_sets.Goals as goal

pub returns-clause-same : goal.returns-clause-same
returns-clause-same c = sets_decide
