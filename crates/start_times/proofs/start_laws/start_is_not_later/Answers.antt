use Rattle.start_times.proofs.Times.{start_is_not_later}
use Rattle.start_times.proofs.start_laws.start_is_not_later.Goals as goal

pub returns : goal.returns
returns c = start_is_not_later
