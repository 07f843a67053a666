use Rattle.std.proofs.Common.{◌≡◌, ◌++◌, map, take}
use Rattle.target_core.specs.Events.{first_place}
use Rattle.target_core.proofs.places.push_places.Given as goal

abbrev pub invariant-loop-reading : goal.invariant-loop-reading
invariant-loop-reading l = l.places.items ≡ l.initial.places.items ++ map (first_place l.honor l.moment) (take l.reading-index l.readings)
