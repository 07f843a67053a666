use Rattle.std.proofs.Common.{◌≡◌, zip, take}
use Rattle.start_times.specs.Sightings.{Sees}
use Rattle.start_times.proofs.sighting.see_all.Given as goal

-- the readings passed were seen
abbrev pub invariant-loop-reading : goal.invariant-loop-reading
invariant-loop-reading l = record {
  places : l.places ≡ l.initial.places;
  seen : Sees l.fn.honor (zip l.initial.places l.fn.rows) l.fn.moment (take l.reading-index l.fn.readings) l.initial.seen l.seen;
}
