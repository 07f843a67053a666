use Rattle.std.proofs.Common.{◌≡◌, map, take}
use Rattle.target_pages.specs.Thinned.{bare_of_exemplars}
use Rattle.target_pages.proofs.shown.bare_readings.Given as goal

-- the readings passed without their exemplars
abbrev pub invariant-loop-reading : goal.invariant-loop-reading
invariant-loop-reading l = l.bare.items ≡ map bare_of_exemplars (take l.reading-index l.readings)
