use Rattle.std.proofs.Common.{◌≡◌, map, take, filter}
use Rattle.federation_page.specs.Candidates.{reading_under, stays}
use Rattle.federation_page.specs.SetsMade.{AreMadeFor}
use Rattle.federation_page.proofs.candidates.readings_under.Given as goal

abbrev pub invariant-loop-reading : goal.invariant-loop-reading
invariant-loop-reading l = (l.kept.items ≡ map (reading_under l.shown l.key l.fn.kind) (filter (stays l.family.kind) (take l.reading-index l.readings)))
    × AreMadeFor l.shown l.sets.made.items
