use Rattle.std.proofs.Common.{ap, ◌∙◌, sym, slice_get, List}
use Rattle.label_sets.specs.declared.series_key.SeriesKey.{SeriesKey}
use Rattle.packed_keys.proofs.Series.{next_place}
use Rattle.packed_keys.proofs.series_places.SeriesPlaces.find.Goals as goal

pub returns-in-Some-clause-place : goal.returns-in-Some-clause-place
returns-in-Some-clause-place c = next_place c.args.self.now c.args.key.now c.in-Some.at (ap (λ (keys : List SeriesKey). slice_get keys c.in-Some.at) (sym c.self.view_is) ∙ c.in-Some.ensures.place)
