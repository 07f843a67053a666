use Rattle.std.proofs.Common.{◌≡◌, map, take}
use Rattle.series_table.specs.Records.{Kept}
use Rattle.target_table.proofs.slots.pages_of.Given as goal

-- the pages of the tracks so far
abbrev pub invariant-loop-track : goal.invariant-loop-track
invariant-loop-track g l = l.seen.items ≡ map (λ (k : Kept). k.shown) (take l.track-index l.tracks)
