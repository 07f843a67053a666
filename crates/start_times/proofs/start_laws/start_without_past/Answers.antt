use Rattle.start_times.proofs.RowLaws.{start_without_past}
use Rattle.start_times.proofs.start_laws.start_without_past.Goals as goal

pub returns : goal.returns
returns c = start_without_past
