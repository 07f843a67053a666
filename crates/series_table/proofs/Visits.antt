-- A visit that was made keeps what a track keeps, and is one event more.
use Rattle.std.proofs.Common.{◌≡◌, ℕ, ◌<◌, Bool, false, suc, List, ◌∷◌, length, Option, Some, None, refl, sym, ap, subst, ◌∙◌, arith}
use Rattle.std.proofs.lemmas.Option.{none-some, same_Some}
use Rattle.page_model.specs.declared.event.Event.{Event}
use Rattle.page_model.specs.declared.event.Shown.{Shown}
use Rattle.bridge_ports.specs.declared.talk.Talk.{Talk}
use Rattle.bridge_ports.specs.Talks.{ToldTalks, Tells, WireState, made_ready}
use Rattle.bridge_ports.specs.declared.talk.Stage.TheVariants as stages
use Rattle.target_core.specs.Events.{request_after}
use Rattle.target_core.specs.States.{Following}
use Rattle.otlp_sender.specs.declared.posted.Posted.{Posted}
use Rattle.otlp_sender.specs.declared.posted.Try.{Try}
use Rattle.otlp_sender.specs.Posting.{IsPosting, GrewByRun, posted_of}
use Rattle.scrape_client.specs.Scraping.{GrewByEvent}
use Rattle.series_table.specs.declared.aim.Aim.{Aim}
use Rattle.series_table.specs.declared.counts.Counts.{Counts}
use Rattle.series_table.specs.declared.making.Prepared.{Prepared}
use Rattle.series_table.specs.Talking.{Followed}
use Rattle.series_table.specs.HttpTalks.{talking}
use Rattle.series_table.specs.Emission.{tracking_of, IsEventOf, post_text_after}
use Rattle.series_table.specs.Counting.{with_visit, visit_counts, has_failed}
use Rattle.series_table.specs.Making.{IsMade, IsPrepared, point_counts, whole_request}
use Rattle.series_table.specs.Records.{Kept, IsTrack, IsDone, IsBodyOf, IsShownOf, BodiesOf, talks_of}
use Rattle.series_table.specs.Keeping.{followed_by, kept_with}
use Rattle.series_table.proofs.Tellings.{told_talks, tells_before, tells_both, tells_on}
use Rattle.series_table.proofs.Histories.{event_fits, run_fits, all_counted, visit_fits}
use Rattle.series_table.proofs.Halting.{same_plans}
use Rattle.series_table.proofs.Tallies.{counts_rise, same_tally, visits_rise}
use Rattle.series_table.proofs.Shows.{shows_event}
use Rattle.series_table.proofs.FewRows.{few_rows_behind}

-- the talks of a post wire that was made ready and used
tried : (most room : ℕ) (text : List ℕ) (p m p1 : WireState) (last : Try) → m ≡ made_ready most room p → Tells (GrewByRun most text last) m.told p1.told → Tells (GrewByRun most text last) p.told p1.told
tried most room text p m p1 last ready h = subst (λ (told : Option ToldTalks). Tells (GrewByRun most text last) told p1.told) (ap (λ (x : WireState). x.told) ready) h

-- the text of an event
event_text : (aim : Aim) (s p : WireState) (events : List Event) (e : Event) (f1 : Following) (made : Prepared) → IsMade aim (tracking_of (followed_by aim s.plan p.plan)) events e f1 made
    → (whole_request made.text) ≡ post_text_after talking (followed_by aim s.plan p.plan) events e
unfolding talking
event_text aim s p events e f1 made m = m.text

-- the facts of a visit that was made, before the plans of its wires are seen to be the same
record Facts (aim : Aim) (s0 s1 p0 p1 : WireState) (f0 f1 : Following) (shown : Shown) (second : Option Shown) (counts : Counts) (made : Prepared) (event : Event) (last : Try) : Type 0 where
  track : IsTrack talking (kept_with aim s0 p0 f0 shown second counts false)
  few : counts.visits < 1000000
  prepared : IsPrepared aim s0 s1 p0 (made_ready aim.settings.tries (length (whole_request made.text)) p0) f0 f1 made event
  idle_post : p1.stage ≡ stages.Idle
  place_post : p1.place ≡ p0.place
  plan_post : p1.plan ≡ p0.plan
  told_post : Tells (GrewByRun aim.settings.tries (whole_request made.text) last) p0.told p1.told

-- the same target
abbrev followed_before : Aim → WireState → WireState → Followed
followed_before aim s0 p0 = followed_by aim s0.plan p0.plan

made_of : (aim : Aim) (s0 s1 p0 p1 : WireState) (f0 f1 : Following) (shown : Shown) (second : Option Shown) (counts : Counts) (made : Prepared) (event : Event) (last : Try)
    → (x : Facts aim s0 s1 p0 p1 f0 f1 shown second counts made event last) → IsMade aim (tracking_of (followed_before aim s0 p0)) x.track.history.events event f1 made
made_of aim s0 s1 p0 p1 f0 f1 shown second counts made event last x = x.prepared.made (tracking_of (followed_before aim s0 p0)) x.track.history.events (x.track.history.stands refl)

counted : (aim : Aim) (s0 s1 p0 p1 : WireState) (f0 f1 : Following) (shown : Shown) (second : Option Shown) (counts : Counts) (made : Prepared) (event : Event) (last : Try)
    → (x : Facts aim s0 s1 p0 p1 f0 f1 shown second counts made event last)
    → with_visit counts made.failed made.points (posted_of last) ≡ visit_counts (followed_before aim s0 p0) (event ∷ x.track.history.events) (posted_of last ∷ x.track.history.posted)
counted aim s0 s1 p0 p1 f0 f1 shown second counts made event last x =
    let f = followed_before aim s0 p0 in
    let r = x.track.history in
    let m = made_of aim s0 s1 p0 p1 f0 f1 shown second counts made event last x in
    let visits : counts.visits ≡ length r.events = ap (λ (c : Counts). c.visits) r.counts in
    let below : length r.events < 1000000 = subst (λ n. n < 1000000) visits x.few in
    same_tally counts (visit_counts f r.events r.posted) made.failed (has_failed event) made.points (point_counts (request_after f.target (tracking_of f) r.events event)) (posted_of last) r.counts x.prepared.failed m.points
    ∙ counts_rise f r.events r.posted event (posted_of last) r.as_many below

bodies_of : (aim : Aim) (s0 s1 p0 p1 : WireState) (f0 f1 : Following) (shown : Shown) (second : Option Shown) (counts : Counts) (made : Prepared) (event : Event) (last : Try)
    → (x : Facts aim s0 s1 p0 p1 f0 f1 shown second counts made event last) → (scrapes posts : List Talk) → talks_of s1 ≡ Some scrapes → talks_of p1 ≡ Some posts
    → BodiesOf talking (followed_before aim s0 p0) 0 scrapes posts (event ∷ x.track.history.events) (posted_of last ∷ x.track.history.posted)
bodies_of aim s0 s1 p0 p1 f0 f1 shown second counts made event last x scrapes posts a b =
    let f = followed_before aim s0 p0 in
    let r = x.track.history in
    let m = made_of aim s0 s1 p0 p1 f0 f1 shown second counts made event last x in
    let t = tells_before (GrewByEvent aim.settings.limit aim.settings.max_page aim.target.address event) s0.told s1.told scrapes x.prepared.scrape.told a in
    let u = tells_before (GrewByRun aim.settings.tries (whole_request made.text) last) p0.told p1.told posts x.told_post b in
    let run : GrewByRun aim.settings.tries (post_text_after talking f r.events event) last u.0 posts = subst (λ text. GrewByRun aim.settings.tries text last u.0 posts) (event_text aim s0 p0 r.events event f1 made m) u.2 in
    visit_fits f r.events r.posted t.0 scrapes u.0 posts event last (r.bodies t.0 u.0 t.1 u.1) t.2 run

shows_made : (aim : Aim) (s0 s1 p0 p1 : WireState) (f0 f1 : Following) (shown : Shown) (second : Option Shown) (counts : Counts) (made : Prepared) (event : Event) (last : Try)
    → (x : Facts aim s0 s1 p0 p1 f0 f1 shown second counts made event last) → IsShownOf (followed_before aim s0 p0) made.shown
shows_made aim s0 s1 p0 p1 f0 f1 shown second counts made event last x =
    let f = followed_before aim s0 p0 in
    let m = made_of aim s0 s1 p0 p1 f0 f1 shown second counts made event last x in
    subst (IsShownOf f) (sym m.shown) (shows_event f event x.track.history.events x.prepared.page)

-- a track behind such a visit, with the plans from before
abbrev done_track : Aim → WireState → WireState → WireState → WireState → Following → Counts → Prepared → Posted → Kept
done_track aim s0 s1 p0 p1 f1 counts made p = record {
  followed = followed_before aim s0 p0;
  scrape = s1;
  post = p1;
  following = f1;
  shown = made.shown;
  second = Some made.second;
  counts = with_visit counts made.failed made.points p;
  halted = false;
}

goes_on : (aim : Aim) (s0 s1 p0 p1 : WireState) (f0 f1 : Following) (shown : Shown) (second : Option Shown) (counts : Counts) (made : Prepared) (event : Event) (last : Try)
    → Facts aim s0 s1 p0 p1 f0 f1 shown second counts made event last → IsTrack talking (done_track aim s0 s1 p0 p1 f1 counts made (posted_of last))
goes_on aim s0 s1 p0 p1 f0 f1 shown second counts made event last x =
    let f = followed_before aim s0 p0 in
    let r = x.track.history in
    let m = made_of aim s0 s1 p0 p1 f0 f1 shown second counts made event last x in
    let shows = shows_made aim s0 s1 p0 p1 f0 f1 shown second counts made event last x in
    record {
      ranges = x.track.ranges;
      scrape_wire = record { free = x.prepared.scrape.free; plan_is = x.prepared.scrape.plan };
      post_wire = record { free = x.idle_post; plan_is = x.plan_post };
      history = record {
        events = event ∷ r.events;
        posted = posted_of last ∷ r.posted;
        as_many = ap suc r.as_many;
        pages = (x.prepared.page, r.pages);
        counts = counted aim s0 s1 p0 p1 f0 f1 shown second counts made event last x;
        shown = m.shown;
        stands = λ e. m.stands;
        bodies = λ scrapes posts a b. bodies_of aim s0 s1 p0 p1 f0 f1 shown second counts made event last x scrapes posts a b;
      };
      few_rows = few_rows_behind f f1 (event ∷ r.events) m.stands (x.prepared.page, r.pages);
      shows = shows;
      second_shows = subst (IsShownOf f) (sym x.prepared.second) shows;
      unvisited = λ none. absurd (let more = visits_rise counts x.few in omega (arith, more, none));
    }

did : (aim : Aim) (s0 s1 p0 p1 : WireState) (f0 f1 : Following) (shown : Shown) (second : Option Shown) (counts : Counts) (made : Prepared) (event : Event) (last : Try)
    → Facts aim s0 s1 p0 p1 f0 f1 shown second counts made event last
    → IsDone talking (kept_with aim s0 p0 f0 shown second counts false) (kept_with aim s1 p1 f1 made.shown (Some made.second) (with_visit counts made.failed made.points (posted_of last)) false)
did aim s0 s1 p0 p1 f0 f1 shown second counts made event last x =
    let f = followed_before aim s0 p0 in
    let r = x.track.history in
    let m = made_of aim s0 s1 p0 p1 f0 f1 shown second counts made event last x in
    record {
      went = refl;
      goes_on = refl;
      counted = visits_rise counts x.few;
      second = ap Some x.prepared.second;
      same = record {
        followed = same_plans aim s1.plan p1.plan s0.plan p0.plan x.prepared.scrape.plan x.plan_post;
        scrape_place = x.prepared.scrape.place;
        post_place = x.place_post;
        scrape_tells = tells_on (GrewByEvent aim.settings.limit aim.settings.max_page aim.target.address event) s0.told s1.told x.prepared.scrape.told;
        post_tells = tells_on (GrewByRun aim.settings.tries (whole_request made.text) last) p0.told p1.told x.told_post;
      };
      told = λ scrapes posts a b new_scrapes new_posts c d. (
          let grew = tells_both (GrewByEvent aim.settings.limit aim.settings.max_page aim.target.address event) s0.told s1.told scrapes new_scrapes x.prepared.scrape.told a c in
          let run = tells_both (GrewByRun aim.settings.tries (whole_request made.text) last) p0.told p1.told posts new_posts x.told_post b d in
          let own : GrewByRun aim.settings.tries (post_text_after talking f r.events event) last posts new_posts = subst (λ text. GrewByRun aim.settings.tries text last posts new_posts) (event_text aim s0 p0 r.events event f1 made m) run in
          record {
            earlier = r.events;
            history = all_counted talking f r.events r.posted scrapes posts (r.bodies scrapes posts a b);
            talk = grew.0;
            event = event;
            tried = own.0;
            came_to = posted_of last;
            scraped = grew.1;
            posted = own.1;
            is_event = event_fits f grew.0 event grew.2;
            is_posted = run_fits aim.settings.tries (post_text_after talking f r.events event) own.0 last (posted_of last) own.2 refl;
            shown = m.shown;
          }
          );
    }

-- ---- what the code has

facts_of : (aim : Aim) (s0 s1 p0 m p1 : WireState) (f0 f1 : Following) (shown : Shown) (second : Option Shown) (counts : Counts) (halted : Bool) (made : Prepared) (event : Event) (posted : Posted)
    → IsTrack talking (kept_with aim s0 p0 f0 shown second counts halted) → halted ≡ false → counts.visits < 1000000 → IsPrepared aim s0 s1 p0 m f0 f1 made event
    → (done : IsPosting aim.settings.tries (whole_request made.text) m p1 posted) → Facts aim s0 s1 p0 p1 f0 f1 shown second counts made event done.last
facts_of aim s0 s1 p0 m p1 f0 f1 shown second counts halted made event posted track working few prepared done = record {
  track = subst (λ b. IsTrack talking (kept_with aim s0 p0 f0 shown second counts b)) working track;
  few = few;
  prepared = subst (λ (w : WireState). IsPrepared aim s0 s1 p0 w f0 f1 made event) prepared.room prepared;
  idle_post = done.free;
  place_post = done.place ∙ ap (λ (w : WireState). w.place) prepared.room;
  plan_post = done.plan ∙ ap (λ (w : WireState). w.plan) prepared.room;
  told_post = tried aim.settings.tries (length (whole_request made.text)) (whole_request made.text) p0 m p1 done.last prepared.room done.told;
}

-- what a track keeps stays where a visit was made
pub track_goes_on : (aim : Aim) (s0 s1 p0 m p1 : WireState) (f0 f1 : Following) (shown : Shown) (second : Option Shown) (counts : Counts) (halted : Bool) (made : Prepared) (event : Event) (posted : Posted)
    → IsTrack talking (kept_with aim s0 p0 f0 shown second counts halted) → halted ≡ false → counts.visits < 1000000 → IsPrepared aim s0 s1 p0 m f0 f1 made event → IsPosting aim.settings.tries (whole_request made.text) m p1 posted
    → IsTrack talking (kept_with aim s1 p1 f1 made.shown (Some made.second) (with_visit counts made.failed made.points posted) halted)
track_goes_on aim s0 s1 p0 m p1 f0 f1 shown second counts halted made event posted track working few prepared done =
    let x = facts_of aim s0 s1 p0 m p1 f0 f1 shown second counts halted made event posted track working few prepared done in
    let base : IsTrack talking (done_track aim s0 s1 p0 p1 f1 counts made (posted_of done.last)) = goes_on aim s0 s1 p0 p1 f0 f1 shown second counts made event done.last x in
    let posted_so : IsTrack talking (done_track aim s0 s1 p0 p1 f1 counts made posted) = subst (λ p. IsTrack talking (done_track aim s0 s1 p0 p1 f1 counts made p)) (sym done.result_is) base in
    let planned = subst (λ (f : Followed). IsTrack talking (record {
      followed = f;
      scrape = s1;
      post = p1;
      following = f1;
      shown = made.shown;
      second = Some made.second;
      counts = with_visit counts made.failed made.points posted;
      halted = false;
    })) (sym (same_plans aim s1.plan p1.plan s0.plan p0.plan x.prepared.scrape.plan x.plan_post)) posted_so in
    subst (λ b. IsTrack talking (kept_with aim s1 p1 f1 made.shown (Some made.second) (with_visit counts made.failed made.points posted) b)) (sym working) planned

-- what such a visit did
pub visit_done : (aim : Aim) (s0 s1 p0 m p1 : WireState) (f0 f1 : Following) (shown : Shown) (second : Option Shown) (counts : Counts) (halted : Bool) (made : Prepared) (event : Event) (posted : Posted)
    → IsTrack talking (kept_with aim s0 p0 f0 shown second counts halted) → halted ≡ false → counts.visits < 1000000 → IsPrepared aim s0 s1 p0 m f0 f1 made event → IsPosting aim.settings.tries (whole_request made.text) m p1 posted
    → IsDone talking (kept_with aim s0 p0 f0 shown second counts halted) (kept_with aim s1 p1 f1 made.shown (Some made.second) (with_visit counts made.failed made.points posted) halted)
visit_done aim s0 s1 p0 m p1 f0 f1 shown second counts halted made event posted track working few prepared done =
    let x = facts_of aim s0 s1 p0 m p1 f0 f1 shown second counts halted made event posted track working few prepared done in
    let base = did aim s0 s1 p0 p1 f0 f1 shown second counts made event done.last x in
    let posted_so = subst (λ p. IsDone talking (kept_with aim s0 p0 f0 shown second counts false) (kept_with aim s1 p1 f1 made.shown (Some made.second) (with_visit counts made.failed made.points p) false)) (sym done.result_is) base in
    subst (λ b. IsDone talking (kept_with aim s0 p0 f0 shown second counts b) (kept_with aim s1 p1 f1 made.shown (Some made.second) (with_visit counts made.failed made.points posted) b)) (sym working) posted_so

-- ---- the body

-- the event of a scrape is told by its new talk
told_event : (f : Followed) (e : Event) (old new : Option ToldTalks) → Tells (GrewByEvent f.settings.limit f.settings.max_page f.target.address e) old new → (scrapes : List Talk) → told_talks old ≡ Some scrapes
    → (talk : Talk) × (told_talks new ≡ Some (talk ∷ scrapes)) × IsEventOf talking f talk e
told_event f e (Some old) (Some new) h scrapes is = (h.0, ap Some (h.1 ∙ ap (λ ts. h.0 ∷ ts) (same_Some old.talks scrapes is)), event_fits f h.0 e h.2)
told_event f e (Some old) None h scrapes is = absurd h
told_event f e None new h scrapes is = absurd (none-some scrapes is)

-- a visit that was made gives its body
pub gives_body : (aim : Aim) (s0 s1 p0 m p1 : WireState) (f0 f1 : Following) (shown shown_now : Shown) (second second_now : Option Shown) (counts counts_now : Counts) (halted halted_now : Bool) (made : Prepared) (event : Event)
    → IsPrepared aim s0 s1 p0 m f0 f1 made event
    → IsBodyOf talking (kept_with aim s0 p0 f0 shown second counts halted) (kept_with aim s1 p1 f1 shown_now second_now counts_now halted_now) made.text.body.items
gives_body aim s0 s1 p0 m p1 f0 f1 shown shown_now second second_now counts counts_now halted halted_now made event prepared = record {
  event = event;
  told = λ scrapes is. told_event (followed_by aim s0.plan p0.plan) event s0.told s1.told prepared.scrape.told scrapes is;
  text = λ earlier stands. (let made_so = prepared.made (tracking_of (followed_by aim s0.plan p0.plan)) earlier stands in (made_so.body, made_so.stands));
}
