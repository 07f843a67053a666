use Rattle.staleness.proofs.Gone.{gone_once}
use Rattle.staleness.proofs.gone_laws.gone_once.Goals as goal

pub returns : goal.returns
returns c = gone_once
