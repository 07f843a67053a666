use Rattle.std.proofs.Common.{rules}
use Rattle.packed_keys.proofs.Series.{next_place, no_place}
use Rattle.packed_keys.proofs.series_places.SeriesPlaces.find_far.Goals as goal

pub returns-then-lacks-clause-place : goal.returns-then-lacks-clause-place
returns-then-lacks-clause-place c = no_place c.args.self.now c.args.key.now (search rules)

pub returns-in-Some-clause-place : goal.returns-in-Some-clause-place
returns-in-Some-clause-place c = next_place c.args.self.now c.args.key.now c.in-Some.at c.in-Some.ensures

pub returns-then-look_for_kind-clause-place : goal.returns-then-look_for_kind-clause-place
returns-then-look_for_kind-clause-place c = no_place c.args.self.now c.args.key.now (search rules)
