use Rattle.std.proofs.Common.{ℕ, ◌<◌, List, Some, sym, ap, subst, true}
use Rattle.otlp_sender.specs.Posting.{IsPosting}
use Rattle.series_table.specs.declared.counts.Counts.{Counts}
use Rattle.series_table.specs.HttpTalks.{talking}
use Rattle.series_table.specs.Keeping.{kept_with}
use Rattle.series_table.specs.Making.{whole_request}
use Rattle.series_table.specs.Records.{Kept, IsTrack, IsBodyOf, IsDone, IsHalted, PostsWhatItsTalksTell}
use Rattle.series_table.proofs.Halting.{track_halts, visit_halts, posts_what_talks_tell}
use Rattle.series_table.proofs.Histories.{next_moment}
use Rattle.series_table.proofs.Visits.{track_goes_on, visit_done, gives_body}
use Rattle.series_table.proofs.track.Track.next_body.Goals as goal

pub returns-then-self-clause-sentence : goal.returns-then-self-clause-sentence
returns-then-self-clause-sentence g c = subst (PostsWhatItsTalksTell talking) c.self.view_is (posts_what_talks_tell talking _ c.self.invariant)

pub prepare-requires-clause-next : goal.prepare-requires-clause-next
prepare-requires-clause-next g c κs within = next_moment talking _ c.self.invariant c.if-self.false (subst (λ (k : Kept). k.counts.visits < 1000000) (sym c.self.view_is) c.requires)

pub invariant_of-self : goal.invariant_of-self
invariant_of-self g c =
    let inside = c.self.inside in
    let made = c.in-Ok.made in
    let state = g.W.Wire.state in
    let few : inside.counts.visits < 1000000 = subst (λ (k : Kept). k.counts.visits < 1000000) (sym c.self.view_is) c.requires in
    let done : IsPosting inside.aim.settings.tries (whole_request made.text) (state c.prepare.new.post) (state c.post_parts-posted.new.wire) c.post_parts-posted.result =
    subst (λ (text : List ℕ). IsPosting inside.aim.settings.tries text (state c.prepare.new.post) (state c.post_parts-posted.new.wire) c.post_parts-posted.result) (cc (c.parts.ensures.head, c.parts.ensures.body)) c.post_parts-posted.ensures in
    subst (λ (counts : Counts). IsTrack talking (kept_with inside.aim (state c.prepare.new.wire) (state c.post_parts-posted.new.wire) c.prepare.new.state made.shown (Some made.second) counts inside.halted)) (sym c.with_visit-self-inside.ensures)
    (track_goes_on inside.aim (state inside.scrape) (state c.prepare.new.wire) (state inside.post) (state c.prepare.new.post) (state c.post_parts-posted.new.wire) inside.state c.prepare.new.state inside.shown inside.second inside.counts inside.halted
    made c.in-Ok.ensures.0 c.post_parts-posted.result c.self.invariant c.if-self.false few c.in-Ok.ensures.1 done)

pub invariant_of-self-in-Err : goal.invariant_of-self-in-Err
invariant_of-self-in-Err g c =
    let inside = c.self.inside in
    let state = g.W.Wire.state in
    track_halts talking inside.aim (state inside.scrape) (state c.prepare.new.wire) (state inside.post) (state c.prepare.new.post) inside.state c.prepare.new.state inside.shown inside.second inside.counts inside.halted c.self.invariant c.if-self.false
    c.in-Err.ensures.0 c.in-Err.ensures.1 c.in-Err.ensures.2

pub returns-in-Ok-clause-visit : goal.returns-in-Ok-clause-visit
returns-in-Ok-clause-visit g c =
    let inside = c.self.inside in
    let made = c.in-Ok.made in
    let state = g.W.Wire.state in
    let few : inside.counts.visits < 1000000 = subst (λ (k : Kept). k.counts.visits < 1000000) (sym c.self.view_is) c.requires in
    let done : IsPosting inside.aim.settings.tries (whole_request made.text) (state c.prepare.new.post) (state c.post_parts-posted.new.wire) c.post_parts-posted.result =
    subst (λ (text : List ℕ). IsPosting inside.aim.settings.tries text (state c.prepare.new.post) (state c.post_parts-posted.new.wire) c.post_parts-posted.result) (cc (c.parts.ensures.head, c.parts.ensures.body)) c.post_parts-posted.ensures in
    subst (λ (before : Kept). IsDone talking before (kept_with inside.aim (state c.prepare.new.wire) (state c.post_parts-posted.new.wire) c.prepare.new.state made.shown (Some made.second) c.with_visit-self-inside.result inside.halted)) c.self.view_is
    (subst (λ (counts : Counts). IsDone talking (kept_with inside.aim (state inside.scrape) (state inside.post) inside.state inside.shown inside.second inside.counts inside.halted)
    (kept_with inside.aim (state c.prepare.new.wire) (state c.post_parts-posted.new.wire) c.prepare.new.state made.shown (Some made.second) counts inside.halted)) (sym c.with_visit-self-inside.ensures)
    (visit_done inside.aim (state inside.scrape) (state c.prepare.new.wire) (state inside.post) (state c.prepare.new.post) (state c.post_parts-posted.new.wire) inside.state c.prepare.new.state inside.shown inside.second inside.counts inside.halted
    made c.in-Ok.ensures.0 c.post_parts-posted.result c.self.invariant c.if-self.false few c.in-Ok.ensures.1 done))

pub returns-in-Ok-clause-sentence : goal.returns-in-Ok-clause-sentence
returns-in-Ok-clause-sentence g c = posts_what_talks_tell talking _ (invariant_of-self g c)

pub returns-in-Err-clause-visit : goal.returns-in-Err-clause-visit
returns-in-Err-clause-visit g c =
    let inside = c.self.inside in
    let state = g.W.Wire.state in
    subst (λ (before : Kept). IsHalted before (kept_with inside.aim (state c.prepare.new.wire) (state c.prepare.new.post) c.prepare.new.state inside.shown inside.second inside.counts true)) c.self.view_is
    (visit_halts inside.aim (state inside.scrape) (state c.prepare.new.wire) (state inside.post) (state c.prepare.new.post) inside.state c.prepare.new.state inside.shown inside.second inside.counts inside.halted c.if-self.false
    c.in-Err.ensures.0 c.in-Err.ensures.1)

pub returns-in-Err-clause-sentence : goal.returns-in-Err-clause-sentence
returns-in-Err-clause-sentence g c = posts_what_talks_tell talking _ (invariant_of-self-in-Err g c)

pub returns-in-Ok-clause-body : goal.returns-in-Ok-clause-body
returns-in-Ok-clause-body g c =
    let inside = c.self.inside in
    let made = c.in-Ok.made in
    let state = g.W.Wire.state in
    subst (λ (before : Kept). IsBodyOf talking before (kept_with inside.aim (state c.prepare.new.wire) (state c.post_parts-posted.new.wire) c.prepare.new.state made.shown (Some made.second) c.with_visit-self-inside.result inside.halted) c.into_body.result.items) c.self.view_is
    (subst (λ (bytes : List ℕ). IsBodyOf talking (kept_with inside.aim (state inside.scrape) (state inside.post) inside.state inside.shown inside.second inside.counts inside.halted) (kept_with inside.aim (state c.prepare.new.wire) (state c.post_parts-posted.new.wire) c.prepare.new.state made.shown (Some made.second) c.with_visit-self-inside.result inside.halted) bytes)
    (ap (λ (v : _). v.items) (sym c.into_body.ensures))
    (gives_body inside.aim (state inside.scrape) (state c.prepare.new.wire) (state inside.post) (state c.prepare.new.post) (state c.post_parts-posted.new.wire) inside.state c.prepare.new.state inside.shown made.shown inside.second (Some made.second) inside.counts c.with_visit-self-inside.result inside.halted inside.halted made c.in-Ok.ensures.0 c.in-Ok.ensures.1))
