-- A visit that finds no memory keeps what a track keeps.
use Rattle.std.proofs.Common.{◌≡◌, Bool, true, false, inl, inr, List, [], ◌∷◌, Option, is_some, refl, sym, ap, subst, ◌∙◌, arith}
use Rattle.std.specs.Prelude.{if◌then◌else◌}
use Rattle.std.proofs.lemmas.Option.{same_Some}
use Rattle.page_model.specs.declared.event.Shown.{Shown}
use Rattle.bridge_ports.specs.declared.talk.Talk.{Talk}
use Rattle.bridge_ports.specs.Talks.{Plan, WireState}
use Rattle.target_core.specs.States.{Following}
use Rattle.scrape_client.specs.Scraping.{GrewByOne, IsCutShort}
use Rattle.series_table.specs.declared.aim.Aim.{Aim}
use Rattle.series_table.specs.declared.counts.Counts.{Counts}
use Rattle.series_table.specs.Talking.{Talking}
use Rattle.series_table.specs.Records.{Kept, IsTrack, IsHalted, IsHalt, PostsWhatItsTalksTell, talks_of}
use Rattle.series_table.specs.Making.{TookAtMostOne}
use Rattle.series_table.specs.Keeping.{followed_by, kept_with}
use Rattle.series_table.proofs.FewRows.{few_rows_kept}
use Rattle.series_table.proofs.Tellings.{tells_before, tells_both, tells_on}
use Rattle.series_table.proofs.Histories.{talk_follows}

-- wires with the same plans
pub same_plans : (aim : Aim) (a b c d : Option Plan) → a ≡ c → b ≡ d → followed_by aim a b ≡ followed_by aim c d
same_plans aim a b c d p q = λ i. followed_by aim (p i) (q i)

never : {A : Type 0} → false ≡ true → A
never e = absurd (let x : false ≡ true = e in cc)

-- a halted track: its scrape wire made one talk more at most, its post wire is as it was
abbrev halted_track : (Option Plan × Option Plan) → Aim → WireState → WireState → Following → Shown → Option Shown → Counts → Kept
halted_track plans aim s p following shown second counts = record {
  followed = followed_by aim plans.0 plans.1;
  scrape = s;
  post = p;
  following = following;
  shown = shown;
  second = second;
  counts = counts;
  halted = true;
}

halts_with : (w : Talking) (aim : Aim) (s0 s1 p : WireState) (f0 f1 : Following) (shown : Shown) (second : Option Shown) (counts : Counts)
    → IsTrack w (kept_with aim s0 p f0 shown second counts false) → IsCutShort s0 s1 → TookAtMostOne aim f0 f1 → IsTrack w (halted_track (s0.plan, p.plan) aim s1 p f1 shown second counts)
halts_with w aim s0 s1 p f0 f1 shown second counts h cut took =
    let r = h.history in
    record {
      ranges = h.ranges;
      scrape_wire = record { free = cut.free; plan_is = cut.plan };
      post_wire = h.post_wire;
      history = record {
        events = r.events;
        posted = r.posted;
        as_many = r.as_many;
        pages = r.pages;
        counts = r.counts;
        shown = r.shown;
        stands = λ e. never (sym e);
        bodies = λ scrapes posts a b. (
            let t = tells_before GrewByOne s0.told s1.told scrapes cut.told a in
            talk_follows w (followed_by aim s0.plan p.plan) r.events r.posted t.0 scrapes posts t.2 (r.bodies t.0 posts t.1 b)
            );
      };
      few_rows = few_rows_kept aim s0.plan p.plan f0 f1 r.events h.few_rows (r.stands refl) r.pages took;
      shows = h.shows;
      second_shows = h.second_shows;
      unvisited = h.unvisited;
    }

-- what a track keeps stays where a visit finds no memory
pub track_halts : (w : Talking) (aim : Aim) (s0 s1 p0 p1 : WireState) (f0 f1 : Following) (shown : Shown) (second : Option Shown) (counts : Counts) (halted : Bool)
    → IsTrack w (kept_with aim s0 p0 f0 shown second counts halted) → halted ≡ false → IsCutShort s0 s1 → p1 ≡ p0 → TookAtMostOne aim f0 f1 → IsTrack w (kept_with aim s1 p1 f1 shown second counts true)
track_halts w aim s0 s1 p0 p1 f0 f1 shown second counts halted h working cut same took =
    let track : IsTrack w (kept_with aim s0 p0 f0 shown second counts false) = subst (λ b. IsTrack w (kept_with aim s0 p0 f0 shown second counts b)) working h in
    let made : IsTrack w (halted_track (s0.plan, p0.plan) aim s1 p0 f1 shown second counts) = halts_with w aim s0 s1 p0 f0 f1 shown second counts track cut took in
    let planned : IsTrack w (kept_with aim s1 p0 f1 shown second counts true) = subst (λ plan. IsTrack w (halted_track (plan, p0.plan) aim s1 p0 f1 shown second counts)) (sym cut.plan) made in
    subst (λ p. IsTrack w (kept_with aim s1 p f1 shown second counts true)) (sym same) planned

few_talks : (old new posts : List Talk) → GrewByOne old new → IsHalt 1 old posts new posts
few_talks old new posts (inl same) = record { further = []; scraped = same; few = omega arith; posted = refl }
few_talks old new posts (inr grew) = record { further = grew.0 ∷ []; scraped = grew.1; few = omega arith; posted = refl }

-- what such a visit did
pub visit_halts : (aim : Aim) (s0 s1 p0 p1 : WireState) (f0 f1 : Following) (shown : Shown) (second : Option Shown) (counts : Counts) (halted : Bool)
    → halted ≡ false → IsCutShort s0 s1 → p1 ≡ p0 → IsHalted (kept_with aim s0 p0 f0 shown second counts halted) (kept_with aim s1 p1 f1 shown second counts true)
visit_halts aim s0 s1 p0 p1 f0 f1 shown second counts halted working cut same = record {
  halted = refl;
  counts = refl;
  shown = refl;
  second = refl;
  same = record {
    followed = same_plans aim s1.plan p1.plan s0.plan p0.plan cut.plan (ap (λ (p : WireState). p.plan) same);
    scrape_place = cut.place;
    post_place = ap (λ (p : WireState). p.place) same;
    scrape_tells = tells_on GrewByOne s0.told s1.told cut.told;
    post_tells = ap (λ (p : WireState). is_some (talks_of p)) same;
  };
  still = λ e. never (sym working ∙ e);
  told = λ scrapes posts a b new_scrapes new_posts c d. (
      let grew : GrewByOne scrapes new_scrapes = tells_both GrewByOne s0.told s1.told scrapes new_scrapes cut.told a c in
      let alike : posts ≡ new_posts = same_Some posts new_posts (sym b ∙ ap talks_of (sym same) ∙ d) in
      subst (λ (halts : Bool). IsHalt (if halts then 0 else 1) scrapes posts new_scrapes new_posts) (sym working) (subst (λ ts. IsHalt 1 scrapes posts new_scrapes ts) alike (few_talks scrapes new_scrapes posts grew))
      );
}

-- the sentence on one target
pub posts_what_talks_tell : (w : Talking) (k : Kept) → IsTrack w k → PostsWhatItsTalksTell w k
posts_what_talks_tell w k h = λ scrapes posts a b. (h.history.events, h.history.posted, h.history.bodies scrapes posts a b)
