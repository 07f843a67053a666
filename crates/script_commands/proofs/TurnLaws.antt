-- The targets of a script that are visited one after the other: what a visit prints, and what is left of a track.
use Rattle.std.proofs.Common.{◌≡◌, ℕ, ◌+◌, ◌<◌, ◌≤◌, Bool, false, List, [], ◌∷◌, ◌++◌, codes, length, map, take, get_or, Option, Some, Result, Ok, Err, refl, sym, ap, subst, ◌∙◌, arith}
use Rattle.std.specs.Prelude.{slice_get, OnOk, ⊤}
use Rattle.std.specs.List.{AllZip, AllByRecursion}
use Rattle.std.specs.Io.KnownBytes.{Appends}
use Rattle.std.proofs.lemmas.Option.{same_Some}
use Rattle.std.proofs.lemmas.List.{take_all}
use Rattle.bridge_ports.specs.declared.memory_world.Shelved.{Shelved}
use Rattle.bridge_ports.specs.declared.talk.MemoryReply.{MemoryReply}
use Rattle.bridge_ports.specs.declared.talk.Talk.{Talk}
use Rattle.bridge_ports.specs.Talks.{WireState}
use Rattle.bridge_ports.specs.Plans.{MemoryState, seen_of, IsOfPlan, AreTalksOf}
use Rattle.bridge_ports.specs.Writing.{WroteFront}
use Rattle.page_model.specs.declared.event.Event.{Event}
use Rattle.target_core.specs.Events.{request_after}
use Rattle.target_core.specs.States.{Following, StandsFor}
use Rattle.otlp_json.specs.Texts.{request_text}
use Rattle.series_table.specs.HttpTalks.{talking}
use Rattle.series_table.specs.Talking.{Followed}
use Rattle.series_table.specs.Emission.{tracking_of, IsEventOf}
use Rattle.series_table.specs.Records.{Kept, IsBodyOf, IsDone, IsFree, IsTrack, talks_of}
use Rattle.series_table.specs.Tracks.{HasAllVisits, AreTracks}
use Rattle.run_report.specs.Ends.{track_end}
use Rattle.replay_script.specs.declared.header.Header.{Header}
use Rattle.replay_script.specs.declared.script.ScriptTarget.{ScriptTarget}
use Rattle.replay_script.specs.declared.script.Script.{Script}
use Rattle.replay_script.specs.RightScripts.{IsRightTarget}
use Rattle.replay_script.specs.WirePlans.{scrape_plan}
use Rattle.script_commands.specs.Replays.{IsReplyEvent, IsLastShown, body_after, script_tracking}
use Rattle.script_commands.specs.Rounds.{script_followed, script_targets, IsAtRound, IsVisitedAt, AreWiresOf, AreVisitedThrough, AreVisitedWires}
use Rattle.script_commands.specs.Printing.{PrintsText, PrintsNext}
use Rattle.script_commands.specs.declared.replaying.Cut.{Cut}
use Rattle.script_commands.specs.declared.replaying.Cut.TheVariants as cuts
use Rattle.script_commands.proofs.ReplayLaws.{tree_body}
use Rattle.script_commands.proofs.TalkLaws.{scrape_told, track_told}
use Rattle.script_commands.proofs.VisitLaws.{all_of, behind, next_track}
use Rattle.label_sets.proofs.Laws.{all-append}

-- ---- one visit

-- what holds at any rate holds at Ok
pub on_ok : {T E P : Type 0} (r : Result T E) → P → OnOk r P
on_ok (Ok done) is = is
on_ok (Err e) is = tt

-- the talks of a wire that has this plan follow it
talks_follow : (keeps : Bool) (h : Header) (t : ScriptTarget) (k : Kept) (w : MemoryState) (talks : List Talk) → k.followed ≡ script_followed keeps h t → IsFree k.followed.scrape_plan k.scrape → seen_of w ≡ k.scrape → IsOfPlan w → talks_of k.scrape ≡ Some talks
    → AreTalksOf (scrape_plan h t) talks
talks_follow keeps h t k w talks followed free is planned told =
    let plan : w.plan ≡ scrape_plan h t = same_Some w.plan (scrape_plan h t) (ap (λ (s : WireState). s.plan) is ∙ free.plan_is ∙ ap (λ (g : Followed). g.scrape_plan) followed) in
    let same : w.talks ≡ talks = same_Some w.talks talks (ap talks_of is ∙ told) in
    subst (AreTalksOf (scrape_plan h t)) same (subst (λ p. AreTalksOf p w.talks) plan planned.past)

-- the body of a visit is the text of the event that the next reply comes to
record NextBody (h : Header) (t : ScriptTarget) (reply : MemoryReply) (earlier : List Event) (new : Following) (body : List ℕ) : Type 0 where
  event : Event
  is : IsReplyEvent h reply event
  stands : StandsFor t.target (script_tracking h t.target) new (event ∷ earlier)
  text : body ≡ request_text (request_after t.target (script_tracking h t.target) earlier event)

-- a state stands for events of a target that is visited so
abbrev Stands : Followed → Following → List Event → Type 0
Stands f s events = StandsFor f.target (tracking_of f) s events

next_body : (keeps : Bool) (h : Header) (t : ScriptTarget) (place at : ℕ) (old new : Kept) (w : MemoryState) (body : List ℕ) (reply : MemoryReply) (earlier : List Event) → IsRightTarget h t → IsAtRound keeps h t place at old → IsBodyOf talking old new body
    → new.followed ≡ old.followed → IsFree new.followed.scrape_plan new.scrape → seen_of w ≡ new.scrape → IsOfPlan w → slice_get t.scrapes at ≡ Some reply → StandsFor t.target (script_tracking h t.target) old.following earlier
    → NextBody h t reply earlier new.following body
next_body keeps h t place at old new w body reply earlier right under is same free seen planned stands_at stands =
    let told = is.told under.talks under.told in
    let followed : new.followed ≡ script_followed keeps h t = same ∙ under.followed in
    let made = is.text earlier (subst (λ (f : Followed). Stands f old.following earlier) (sym under.followed) stands) in
    let here : slice_get t.scrapes (length under.talks) ≡ Some reply = ap (slice_get t.scrapes) under.many ∙ stands_at in
    record {
      event = is.event;
      is = scrape_told keeps h t under.talks told.0 is.event reply right.replies (talks_follow keeps h t new w (told.0 ∷ under.talks) followed free seen planned told.1) here
          (subst (λ (f : Followed). IsEventOf talking f told.0 is.event) under.followed told.2);
      stands = subst (λ (f : Followed). Stands f new.following (is.event ∷ earlier)) under.followed made.1;
      text = made.0 ∙ ap (λ (f : Followed). request_text (request_after f.target (tracking_of f) earlier is.event)) under.followed;
    }

-- the body was printed, or a front of it
printed_so : (h : Header) (t : ScriptTarget) (reply : MemoryReply) (earlier : List Event) (new : Following) (body : List ℕ) (a b : Option (List ℕ)) (r : Result ⊤ Cut) → NextBody h t reply earlier new body → PrintsText (body ++ codes "\n") a b r
    → PrintsNext h t.target reply earlier new a b r
printed_so h t reply earlier new body a b (Ok done) next printed =
    let same : body ++ codes "\n" ≡ body_after h t.target earlier next.event = ap (λ x. x ++ codes "\n") next.text ∙ tree_body h t.target earlier next.event _ refl in
    (next.event, next.is, next.stands, subst (Appends a b) same printed)
printed_so h t reply earlier new body a b (Err cuts.Write) next printed =
    let same : body ++ codes "\n" ≡ body_after h t.target earlier next.event = ap (λ x. x ++ codes "\n") next.text ∙ tree_body h t.target earlier next.event _ refl in
    (next.event, next.is, subst (WroteFront a b) same printed)
printed_so h t reply earlier new body a b (Err cuts.Memory) next printed = printed

-- what a visit that was made prints
pub visit_printed : (keeps : Bool) (h : Header) (t : ScriptTarget) (place at : ℕ) (old new : Kept) (w : MemoryState) (body : List ℕ) (reply : MemoryReply) (earlier : List Event) (a b : Option (List ℕ)) (r : Result ⊤ Cut) → IsRightTarget h t
    → IsAtRound keeps h t place at old → IsBodyOf talking old new body → IsDone talking old new → IsFree new.followed.scrape_plan new.scrape → seen_of w ≡ new.scrape → IsOfPlan w → slice_get t.scrapes at ≡ Some reply
    → StandsFor t.target (script_tracking h t.target) old.following earlier → PrintsText (body ++ codes "\n") a b r → PrintsNext h t.target reply earlier new.following a b r
visit_printed keeps h t place at old new w body reply earlier a b r right under is done free seen planned stands_at stands printed =
    printed_so h t reply earlier new.following body a b r (next_body keeps h t place at old new w body reply earlier right under is done.same.followed free seen planned stands_at stands) printed

-- a visit more was made
pub visit_more : (keeps : Bool) (h : Header) (t : ScriptTarget) (place at : ℕ) (old new : Kept) (body : List ℕ) → IsAtRound keeps h t place at old → IsBodyOf talking old new body → IsDone talking old new → IsAtRound keeps h t place (at + 1) new
visit_more keeps h t place at old new body under is done =
    let told = is.told under.talks under.told in
    record {
      followed = done.same.followed ∙ under.followed;
      scrape_place = done.same.scrape_place ∙ under.scrape_place;
      post_place = done.same.post_place ∙ under.post_place;
      goes_on = done.goes_on;
      visits = done.counted ∙ ap (λ n. n + 1) under.visits;
      talks = told.0 ∷ under.talks;
      told = told.1;
      many = (let many = under.many in omega (arith, many));
    }

-- ---- a target

-- the wires of a track that was visited for each round
pub visited_at : (keeps : Bool) (h : Header) (t : ScriptTarget) (place : ℕ) (k : Kept) (w : Shelved) → IsAtRound keeps h t place h.rounds k → IsTrack talking k → AreWiresOf k w → IsVisitedAt keeps h t place w
visited_at keeps h t place k w under track wires = record {
  track = k;
  at = record { followed = under.followed; scrape_place = under.scrape_place; post_place = under.post_place; track = track };
  visits = under.visits;
  goes_on = under.goes_on;
  wires_are = wires;
}

all_visits : (h : Header) (k : Kept) → k.counts.visits ≡ h.rounds → k.halted ≡ false → HasAllVisits h.rounds k
all_visits h k all on = record { all = λ e. all; left = λ e. absurd (cc (e, on)) }

-- what it shows is what its target shows behind its last event
pub shows_last : (keeps : Bool) (h : Header) (t : ScriptTarget) (place : ℕ) (k : Kept) (w : Shelved) → IsRightTarget h t → IsAtRound keeps h t place h.rounds k → IsTrack talking k → AreWiresOf k w → IsLastShown h t k.shown
unfolding visited_at
shows_last keeps h t place k w right under track wires =
    let v = visited_at keeps h t place k w under track wires in
    let told = track_told keeps h t place k w right v.at (all_visits h k under.visits under.goes_on) wires in
    let visits = under.visits in
    record { events = told.events; are = told.are; all = omega (arith, told.many, visits, right.scrapes); shows = told.shown }

-- ---- several targets

-- the tracks of the first targets of a script, each visited for each round, and their wires
pub record VisitedFirst (keeps : Bool) (s : Script) (at : ℕ) (wires : List Shelved) : Type 0 where
  pub tracks : List Kept
  pub are : AreTracks talking 0 (script_targets keeps s.header (take at s.targets)) tracks
  pub visited : AllByRecursion (λ (k : Kept). (k.counts.visits ≡ s.header.rounds) × (k.halted ≡ false)) tracks
  pub wires_are : AllZip AreWiresOf tracks wires

-- one target more was visited
pub visited_more : (keeps : Bool) (s : Script) (at : ℕ) (t : ScriptTarget) (wires : List Shelved) (w : Shelved) → at < length s.targets → t ≡ get_or s.targets at t → VisitedFirst keeps s at wires → IsVisitedAt keeps s.header t at w → VisitedFirst keeps s (at + 1) (wires ++ w ∷ [])
visited_more keeps s at t wires w inside is was one = record {
  tracks = was.tracks ++ one.track ∷ [];
  are = next_track keeps s.header s.targets at t was.tracks one.track inside is was.are one.at;
  visited = all-append (λ (k : Kept). (k.counts.visits ≡ s.header.rounds) × (k.halted ≡ false)) was.tracks (one.track ∷ []) was.visited ((one.visits, one.goes_on), tt);
  wires_are = behind was.tracks wires one.track w was.wires_are one.wires_are;
}

have_all : (h : Header) (ks : List Kept) → AllByRecursion (λ (k : Kept). (k.counts.visits ≡ h.rounds) × (k.halted ≡ false)) ks → AllByRecursion (HasAllVisits h.rounds) ks
have_all h [] all = tt
have_all h (k ∷ ks) all = (all_visits h k all.0.0 all.0.1, have_all h ks all.1)

through_all : (h : Header) (ks : List Kept) → AllByRecursion (λ (k : Kept). (k.counts.visits ≡ h.rounds) × (k.halted ≡ false)) ks → AreVisitedThrough h.rounds (map track_end ks)
through_all h [] all = tt
through_all h (k ∷ ks) all = ((let visits = all.0.0 in omega (arith, visits)), through_all h ks all.1)

-- all of them were
pub visited_all : (keeps : Bool) (s : Script) (at : ℕ) (wires : List Shelved) → length s.targets ≤ at → VisitedFirst keeps s at wires → AreVisitedWires keeps s wires
visited_all keeps s at wires through was = record {
  ends = map track_end was.tracks;
  run = record {
    tracks = was.tracks;
    tracks_are = subst (λ ts. AreTracks talking 0 (script_targets keeps s.header ts) was.tracks) (take_all at s.targets through) was.are;
    visited = all_of (HasAllVisits s.header.rounds) was.tracks (have_all s.header was.tracks was.visited);
    left = record { ends_are = refl; wires_are = was.wires_are };
  };
  through = through_all s.header was.tracks was.visited;
}
