use Rattle.std.proofs.Common.{ap}
use Rattle.sample_groups.specs.ExtraValues.{ExtraValue}
use Rattle.sample_groups.proofs.extra.Extra.add_place.Goals as goal

pub returns-clause-rest : goal.returns-clause-rest
returns-clause-rest c = ap (λ (x : ExtraValue). record x { places = c.in_ok-places.places }) c.self.view_is
