-- What a target shows, and the pages of its scrapes.
use Rattle.std.proofs.Common.{ℕ, List, [], ◌∷◌, refl, arith}
use Rattle.page_model.specs.declared.event.Event.{Event}
use Rattle.page_model.specs.declared.event.Outcome.{Outcome}
use Rattle.page_model.specs.declared.event.Outcome.TheVariants as outcomes
use Rattle.page_model.specs.declared.format.Treatment.TheVariants.{Scraped}
use Rattle.page_model.specs.declared.page.Page.{Page}
use Rattle.page_model.specs.Presence.{page_of_outcome, empty_page}
use Rattle.page_model.proofs.Laws.{nothing_is_right, right-distinct_keys, filled_is_read}
use Rattle.page_model.specs.Written.{text_setting}
use Rattle.start_times.specs.Advancing.{HasDistinctKeys}
use Rattle.start_times.specs.Scrapes.{scrape_after}
use Rattle.target_pages.specs.Thinned.{without_exemplars, shown_page}
use Rattle.target_core.specs.Events.{latest_shown}
use Rattle.target_pages.proofs.Laws.{bare_is_read}
use Rattle.scrape_client.specs.Scraping.{IsWithinLimit}
use Rattle.series_table.specs.Talking.{Followed}
use Rattle.series_table.specs.Records.{IsScrapedWithin, IsShownOf}

-- the page without families is within every limit
pub nothing_within : (limit : ℕ) → IsScrapedWithin limit empty_page
nothing_within limit = record { scraped = (text_setting Scraped limit, refl, nothing_is_right Scraped limit); few = omega arith }

-- the page of a scrape is within its limit
pub page_within : (limit : ℕ) (o : Outcome) → IsWithinLimit limit o → IsScrapedWithin limit (page_of_outcome o)
page_within limit (outcomes.Page page) h = record { scraped = h.0; few = h.1 }
page_within limit (outcomes.Failed cause) h = nothing_within limit

-- a page within it is so as it is shown
pub shown_within : (limit : ℕ) (page : Page) → IsScrapedWithin limit page → IsScrapedWithin limit (shown_page page)
unfolding without_exemplars
shown_within limit page h = record {
  scraped = (h.scraped.0, h.scraped.1, filled_is_read h.scraped.0 (without_exemplars page) (bare_is_read h.scraped.0 page h.scraped.2));
  few = h.few;
}

-- no two readings of such a page are of one series
pub keys_differ : (limit : ℕ) (page : Page) → IsScrapedWithin limit page → HasDistinctKeys page
keys_differ limit page h = right-distinct_keys page (h.scraped.0, h.scraped.2)

-- what a target shows behind an event
pub shows_event : (f : Followed) (e : Event) (earlier : List Event) → IsScrapedWithin f.settings.limit (page_of_outcome e.outcome) → IsShownOf f (latest_shown f.target (e ∷ earlier))
unfolding latest_shown scrape_after
shows_event f e earlier h = record { job = refl; instance = refl; scraped = shown_within f.settings.limit (page_of_outcome e.outcome) h }

-- what it shows before the first one
pub shows_nothing : (f : Followed) → IsShownOf f (latest_shown f.target [])
unfolding latest_shown without_exemplars
shows_nothing f = record { job = refl; instance = refl; scraped = nothing_within f.settings.limit }
