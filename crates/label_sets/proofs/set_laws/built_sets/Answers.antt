use Rattle.label_sets.proofs.Order.{IsLabelSet-label_set}
use Rattle.label_sets.proofs.Repeats.{distinct_names}
use Rattle.label_sets.proofs.set_laws.built_sets.Goals as goal

pub returns : goal.returns
returns c = λ pairs h. IsLabelSet-label_set pairs (distinct_names pairs h)
