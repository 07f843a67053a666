use Rattle.std.proofs.Common.{◌≡◌, drop, filter}
use Rattle.federation_page.specs.Candidates.{stays}
use Rattle.federation_page.proofs.candidates.first_that_stays.Given as goal

abbrev pub invariant-loop-reading : goal.invariant-loop-reading
invariant-loop-reading l = filter (stays l.family.kind) (drop l.reading-index l.readings) ≡ filter (stays l.family.kind) l.readings
