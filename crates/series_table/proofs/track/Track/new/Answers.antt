use Rattle.std.proofs.Common.{refl}
use Rattle.series_table.specs.HttpTalks.{talking}
use Rattle.series_table.proofs.Beginnings.{new_track}
use Rattle.series_table.proofs.track.Track.new.Goals as goal

pub invariant_of-result : goal.invariant_of-result
invariant_of-result g c =
    new_track talking _ (g.W.Wire.state c.args.scrape) (g.W.Wire.state c.args.post) _ _ _ c.requires.ranges c.requires.scrape c.requires.post c.in-Ok.ensures.state c.in-Ok.ensures.shown refl
