use Rattle.staleness.proofs.Gone.{gone_without_own_times}
use Rattle.staleness.proofs.gone_laws.gone_without_own_times.Goals as goal

pub returns : goal.returns
returns c = gone_without_own_times
