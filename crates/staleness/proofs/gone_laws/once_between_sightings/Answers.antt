use Rattle.staleness.proofs.Gone.{once_between_sightings}
use Rattle.staleness.proofs.gone_laws.once_between_sightings.Goals as goal

pub returns : goal.returns
returns c = once_between_sightings
