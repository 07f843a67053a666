-- One event more in the history of a target, and one talk more that is not counted.
use Rattle.std.proofs.Common.{◌≡◌, ℕ, ◌+◌, ◌≤◌, ◌<◌, false, inl, inr, List, [], ◌∷◌, ◌++◌, length, Option, Some, None, refl, sym, ap, subst, ◌∙◌, arith}
use Rattle.std.specs.Prelude.{⊤}
use Rattle.page_model.specs.declared.event.Event.{Event}
use Rattle.target_core.specs.States.{HasNextMoment}
use Rattle.start_times.specs.Scrapes.{scrapes_of, scrape_after, last_moment, moment_after, latest_reading}
use Rattle.bridge_ports.specs.declared.talk.Talk.{Talk}
use Rattle.scrape_client.specs.Scraping.{IsTalkOfEvent, GrewByEvent, GrewByOne}
use Rattle.otlp_sender.specs.declared.posted.Posted.{Posted}
use Rattle.otlp_sender.specs.declared.posted.Try.{Try}
use Rattle.otlp_sender.specs.Posting.{IsPostRun, posted_of, GrewByRun}
use Rattle.series_table.specs.Talking.{Talking, Followed}
use Rattle.series_table.specs.HttpTalks.{talking}
use Rattle.series_table.specs.Bodies.{CameOfText}
use Rattle.series_table.specs.Emission.{IsEventOf, IsHistoryOf, post_text_after}
use Rattle.series_table.specs.Records.{Kept, IsTrack, BodiesOf}
use Rattle.series_table.specs.declared.counts.Counts.{Counts}

-- a talk of a scrape is one of the track's history
pub event_fits : (f : Followed) (talk : Talk) (e : Event) → IsTalkOfEvent f.settings.limit f.settings.max_page f.target.address talk e → IsEventOf talking f talk e
unfolding talking
event_fits f talk e h = record { whole = h.whole_talk; read_at = h.reading; outcome = h.outcome }

-- what a post did is what the track counts
pub run_fits : (most : ℕ) (text : List ℕ) (run : List Talk) (last : Try) (p : Posted) → IsPostRun most text run last → p ≡ posted_of last → CameOfText talking most text run p
unfolding talking
run_fits most text run last p h is = record { last = last; run = h; posted_is = is }

empty_list : (xs : List Talk) → length xs ≤ 0 → xs ≡ []
empty_list [] h = refl
empty_list (x ∷ xs) h = absurd (omega arith)

-- where none is left over, the talks that were counted are all
pub all_counted : (w : Talking) (f : Followed) (events : List Event) (posted : List Posted) (scrapes posts : List Talk) → BodiesOf w f 0 scrapes posts events posted → IsHistoryOf w f scrapes events
all_counted w f events posted scrapes posts b =
    let none : b.tells.further ≡ [] = empty_list b.tells.further b.tells.few in
    let all : b.tells.counted ≡ scrapes = ap (λ xs. xs ++ b.tells.counted) (sym none) ∙ sym b.tells.talks_are in
    subst (λ ts. IsHistoryOf w f ts events) all b.tells.history

-- one visit more
pub visit_fits : (f : Followed) (events : List Event) (posted : List Posted) (old_scrapes new_scrapes old_posts new_posts : List Talk) (e : Event) (last : Try)
    → BodiesOf talking f 0 old_scrapes old_posts events posted
    → GrewByEvent f.settings.limit f.settings.max_page f.target.address e old_scrapes new_scrapes
    → GrewByRun f.settings.tries (post_text_after talking f events e) last old_posts new_posts
    → BodiesOf talking f 0 new_scrapes new_posts (e ∷ events) (posted_of last ∷ posted)
visit_fits f events posted old_scrapes new_scrapes old_posts new_posts e last b grew posts = record {
  tells = record {
    counted = grew.0 ∷ old_scrapes;
    further = [];
    talks_are = grew.1;
    few = omega arith;
    history = (event_fits f grew.0 e grew.2, all_counted talking f events posted old_scrapes old_posts b);
  };
  in_order = (posts.0, old_posts, posts.1, run_fits f.settings.tries (post_text_after talking f events e) posts.0 last (posted_of last) posts.2 refl, b.in_order);
}

-- one talk more at most, behind those that were counted
pub talk_follows : (w : Talking) (f : Followed) (events : List Event) (posted : List Posted) (old new posts : List Talk) → GrewByOne old new → BodiesOf w f 0 old posts events posted → BodiesOf w f 1 new posts events posted
talk_follows w f events posted old new posts (inl same) b = record {
  tells = record { counted = b.tells.counted; further = b.tells.further; talks_are = same ∙ b.tells.talks_are; few = (let few = b.tells.few in omega (arith, few)); history = b.tells.history };
  in_order = b.in_order;
}
talk_follows w f events posted old new posts (inr grew) b = record {
  tells = record { counted = b.tells.counted; further = grew.0 ∷ b.tells.further; talks_are = grew.1 ∙ ap (λ ts. grew.0 ∷ ts) b.tells.talks_are; few = (let few = b.tells.few in omega (arith, few)); history = b.tells.history };
  in_order = b.in_order;
}

-- ---- moments

-- moments stay within the readings that count and the number of events, so a track that isn't halted has a next moment, whether its wires tell or not
abbrev IsBelow : ℕ → Option ℕ → Type 0
IsBelow n None = ⊤
IsBelow n (Some moment) = moment ≤ latest_reading + n

next_is_below : (before : Option ℕ) (n reading : ℕ) → IsBelow n before → moment_after before reading ≤ latest_reading + (n + 1)
next_is_below None n reading h = omega arith
next_is_below (Some m) n reading h = omega (arith, h)

last_is_below : (events : List Event) → IsBelow (length events) (last_moment (scrapes_of events))
unfolding scrape_after
last_is_below [] = tt
last_is_below (e ∷ earlier) = (let h = next_is_below (last_moment (scrapes_of earlier)) (length earlier) e.reading (last_is_below earlier) in omega (arith, h))

has_next : (last : Option ℕ) (n : ℕ) → n < 1000000 → IsBelow n last → HasNextMoment last
has_next None n few h = tt
has_next (Some m) n few h = omega (arith, few, h)

pub next_moment : (w : Talking) (k : Kept) → IsTrack w k → k.halted ≡ false → k.counts.visits < 1000000 → HasNextMoment k.following.moment
next_moment w k track working few =
    let r = track.history in
    let visits : k.counts.visits ≡ length r.events = ap (λ (c : Counts). c.visits) r.counts in
    let below : length r.events < 1000000 = subst (λ n. n < 1000000) visits few in
    subst HasNextMoment (sym (r.stands working).moment_is) (has_next (last_moment (scrapes_of r.events)) (length r.events) below (last_is_below r.events))
