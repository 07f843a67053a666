use Rattle.label_sets.proofs.NewNames.{IsLabelSet-renamed}
use Rattle.label_sets.proofs.set_laws.renamed_sets.Goals as goal

pub returns : goal.returns
returns c = IsLabelSet-renamed
