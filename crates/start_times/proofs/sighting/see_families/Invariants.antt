use Rattle.std.proofs.Common.{◌≡◌, zip, take}
use Rattle.std.specs.List.{flat_map}
use Rattle.page_model.specs.declared.page.Family.{Family}
use Rattle.start_times.specs.Sightings.{Sees}
use Rattle.start_times.proofs.sighting.see_families.Given as goal

-- the readings of the families passed were seen
abbrev pub invariant-loop-family : goal.invariant-loop-family
invariant-loop-family l = record {
  places : l.places ≡ l.initial.places;
  seen : Sees l.fn.honor (zip l.initial.places l.fn.rows) l.fn.moment (flat_map (λ (f : Family). f.readings) (take l.family-index l.fn.families)) l.initial.seen l.seen;
}
