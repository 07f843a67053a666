use Rattle.sample_groups.specs.Extras.{extra_in}
use Rattle.sample_groups.proofs.Grown.{both_ok, place_added, place_same}
use Rattle.sample_groups.proofs.extra.add_place.Goals as goal

pub returns-in-Some : goal.returns-in-Some
returns-in-Some c = both_ok _ _ _ c.put_place.result
    (place_added (extra_in c.args.extra.now) (extra_in c.put_place.new.extra) c.args.parts.now c.args.part.now c.in-Some.quantile c.in-Some.ensures)
    (c.put_place.ensures.places c.in-Some.quantile.value) c.put_place.ensures.rest

pub returns-in-None : goal.returns-in-None
returns-in-None c = place_same (extra_in c.args.extra.now) c.args.parts.now c.args.part.now c.in-None.ensures c.requires
