-- What a scrape and the step behind it make.
use Rattle.std.proofs.Common.{◌≡◌, ℕ, inl, inr, ◌∷◌, length, Option, Some, None, ap, ◌∙◌}
use Rattle.page_model.specs.declared.event.Event.{Event}
use Rattle.page_model.specs.Presence.{page_of_outcome}
use Rattle.bridge_ports.specs.declared.talk.Address.{Address}
use Rattle.bridge_ports.specs.Talks.{ToldTalks, Tells, WireState, made_ready}
use Rattle.otlp_json.specs.Texts.{request_text}
use Rattle.http_talk.specs.Requests.{post_request}
use Rattle.target_core.specs.States.{Following, Steps}
use Rattle.scrape_client.specs.Scraping.{GrewByEvent, GrewByOne, IsScrape, IsCutShort}
use Rattle.series_table.specs.declared.aim.Aim.{Aim}
use Rattle.series_table.specs.declared.making.Taken.{Taken}
use Rattle.series_table.specs.declared.making.Prepared.{Prepared}
use Rattle.series_table.specs.Counting.{has_failed}
use Rattle.series_table.specs.Making.{TookEvent, TookAtMostOne, IsOfTaken, IsPrepared, point_counts, whole_request}
use Rattle.series_table.proofs.Shows.{page_within, keys_differ}

one_talk : (limit most : ℕ) (to : Address) (e : Event) (a b : Option ToldTalks) → Tells (GrewByEvent limit most to e) a b → Tells GrewByOne a b
one_talk limit most to e (Some a) (Some b) h = inr (h.0, h.1)
one_talk limit most to e (Some a) None h = h
one_talk limit most to e None (Some b) h = h
one_talk limit most to e None None h = h

-- a scrape made at most one talk
pub cut_short : (limit most : ℕ) (to : Address) (old new : WireState) (e : Event) → IsScrape limit most to old new e → IsCutShort old new
cut_short limit most to old new e h = record { free = h.free; place = h.place; plan = h.plan; later = h.later; told = one_talk limit most to e old.told new.told h.told }

-- the scrape was made, and the state took its event
pub takes : (aim : Aim) (old new : WireState) (before after : Following) (event : Event) (taken : Taken)
    → IsScrape aim.settings.limit aim.settings.max_page aim.target.address old new event → Steps before event taken.tree after → taken.failed ≡ has_failed event → TookEvent aim old new before after taken event
takes aim old new before after event taken scrape steps failed =
    let page = page_within aim.settings.limit event.outcome scrape.page in
    record {
      scrape = scrape;
      page = page;
      failed = failed;
      steps = λ t earlier stands. steps aim.target t earlier (inl stands) (keys_differ aim.settings.limit (page_of_outcome event.outcome) page);
    }

-- that was one event
pub took_one : (aim : Aim) (old new : WireState) (before after : Following) (taken : Taken) (event : Event) → TookEvent aim old new before after taken event → TookAtMostOne aim before after
took_one aim old new before after taken event took = inr (event, took.page, λ t earlier stands. (took.steps t earlier stands).1)

-- all was made
pub prepares : (aim : Aim) (old new post_old post_new : WireState) (before after : Following) (event : Event) (taken : Taken) (p : Prepared) → TookEvent aim old new before after taken event → IsOfTaken aim.to taken after p
    → post_new ≡ made_ready aim.settings.tries (length (whole_request p.text)) post_old → IsPrepared aim old new post_old post_new before after p event
prepares aim old new post_old post_new before after event taken p h of room = record {
  scrape = h.scrape;
  page = h.page;
  failed = of.failed ∙ h.failed;
  second = of.shows.0;
  room = room;
  made = λ t earlier stands. (
      let s = h.steps t earlier stands in record {
        stands = s.1;
        text = of.text ∙ ap (λ tree. post_request aim.to (request_text tree)) s.0;
        body = of.body ∙ ap request_text s.0;
        shown = of.shows.1 aim.target t (event ∷ earlier) s.1;
        points = of.points ∙ ap point_counts s.0;
      }
      );
}
