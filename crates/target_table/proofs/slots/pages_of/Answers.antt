-- Behind the last track the pages are those of all.
use Rattle.std.proofs.Common.{◌∙◌, ap, map, arith}
use Rattle.std.proofs.lemmas.List.{take_all}
use Rattle.series_table.specs.Records.{Kept}
use Rattle.target_table.proofs.slots.pages_of.Goals as goal

pub returns : goal.returns
returns g c = c.loop-track.invariant ∙ ap (map (λ (k : Kept). k.shown)) (take_all c.loop-track.track-index c.args.tracks.now (omega (arith, c.loop-track-test.false)))
