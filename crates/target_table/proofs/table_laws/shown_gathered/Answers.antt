use Rattle.target_table.proofs.ShownGathered.{shown_gathered}
use Rattle.target_table.proofs.table_laws.shown_gathered.Goals as goal

pub returns : goal.returns
returns c = shown_gathered
