use Rattle.label_sets.proofs.NewNames.{IsExportedName-exported_name}
use Rattle.label_sets.proofs.set_laws.exported_names.Goals as goal

pub returns : goal.returns
returns c = IsExportedName-exported_name
