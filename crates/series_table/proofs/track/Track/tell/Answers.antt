-- The wire of scrapes is as it was, so the track is.
use Rattle.std.proofs.Common.{◌∙◌, sym, ap, subst}
use Rattle.bridge_ports.specs.Talks.{WireState}
use Rattle.series_table.specs.HttpTalks.{talking}
use Rattle.series_table.specs.Keeping.{kept_with}
use Rattle.series_table.specs.Records.{IsTrack}
use Rattle.series_table.proofs.Halting.{posts_what_talks_tell}
use Rattle.series_table.proofs.track.Track.tell.Goals as goal

pub invariant_of-self : goal.invariant_of-self
invariant_of-self g c =
    let inside = c.self.inside in
    subst (λ (scrape : WireState). IsTrack talking (kept_with inside.aim scrape (g.W.Wire.state inside.post) inside.state inside.shown inside.second inside.counts inside.halted)) (sym c.notice.ensures) c.self.invariant

pub returns-clause-kept : goal.returns-clause-kept
returns-clause-kept g c =
    let inside = c.self.inside in
    ap (λ (scrape : WireState). kept_with inside.aim scrape (g.W.Wire.state inside.post) inside.state inside.shown inside.second inside.counts inside.halted) c.notice.ensures ∙ c.self.view_is

pub returns-clause-sentence : goal.returns-clause-sentence
returns-clause-sentence g c = posts_what_talks_tell talking _ (invariant_of-self g c)
