-- The text that `convert` prints of a tree.
use Rattle.std.proofs.Common.{◌≡◌, ℕ, ◌++◌, None, ap}
use Rattle.std.specs.Prelude.{codes}
use Rattle.page_model.specs.declared.page.Page.{Page}
use Rattle.page_model.specs.declared.event.Outcome.TheVariants as outcomes
use Rattle.bridge_ports.specs.Targets.{Scraped}
use Rattle.start_times.specs.Scrapes.{moment_after}
use Rattle.otlp_tree.specs.declared.tree.Request.{Request}
use Rattle.target_core.specs.Events.{event_request}
use Rattle.otlp_json.specs.Texts.{request_text}
use Rattle.page_commands.specs.ConvertTexts.{converted_text}

-- the text of the tree of a page's event, and an LF, are what `convert` prints of the page
pub tree_text : (target : Scraped) (nanos : ℕ) (page : Page) (request : Request) → request ≡ event_request target (moment_after None nanos) (outcomes.Page page)
    → request_text request ++ codes "\n" ≡ converted_text target nanos page
unfolding converted_text
tree_text target nanos page request is = ap (λ r. request_text r ++ codes "\n") is
