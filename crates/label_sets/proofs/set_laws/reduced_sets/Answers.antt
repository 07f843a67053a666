use Rattle.label_sets.proofs.Order.{IsLabelSet-without}
use Rattle.label_sets.proofs.set_laws.reduced_sets.Goals as goal

pub returns : goal.returns
returns c = λ labels name h. IsLabelSet-without name labels h
