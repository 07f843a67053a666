use Rattle.std.proofs.Common.{sym, subst}
use Rattle.series_table.specs.HttpTalks.{talking}
use Rattle.series_table.specs.Keeping.{kept_with}
use Rattle.series_table.specs.Records.{IsTrack}
use Rattle.series_table.proofs.Moved.{track-without_second}
use Rattle.series_table.proofs.track.Track.take_second.Goals as goal

pub invariant_of-self : goal.invariant_of-self
invariant_of-self g c =
    subst (λ second. IsTrack talking (kept_with c.self.inside.aim (g.W.Wire.state c.self.inside.scrape) (g.W.Wire.state c.self.inside.post) c.self.inside.state c.self.inside.shown second c.self.inside.counts c.self.inside.halted))
    (sym c.replace.ensures.after) (track-without_second talking _ c.self.invariant)
