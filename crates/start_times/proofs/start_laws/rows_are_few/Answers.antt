use Rattle.start_times.proofs.FewRows.{rows_are_few}
use Rattle.start_times.proofs.start_laws.rows_are_few.Goals as goal

pub returns : goal.returns
returns c = rows_are_few
