-- What `convert` prints. OTLP/HTTP, JSON; the line feed is the bridge's own.
use Rattle.std.specs.Prelude.{ℕ, List, ◌++◌, codes, None}
use Rattle.page_model.specs.declared.page.Page.{Page}
use Rattle.page_model.specs.declared.event.Outcome.TheVariants as outcomes
use Rattle.bridge_ports.specs.Targets.{Scraped}
use Rattle.start_times.specs.Scrapes.{moment_after}
use Rattle.target_core.specs.Events.{event_request}
use Rattle.otlp_json.specs.Texts.{request_text}

-- the text of the event of a page that was scraped at this reading of the clock, and an LF
unfoldable pub converted_text : Scraped → ℕ → Page → List ℕ
converted_text target nanos page = request_text (event_request target (moment_after None nanos) (outcomes.Page page)) ++ codes "\n"
