-- The reader of the page.
use Rattle.std.proofs.Common.{subst}
use Rattle.page_model.specs.declared.format.Treatment.TheVariants.{Scraped}
use Rattle.scrape_client.specs.PageReplies.{PageHasRead}
use Rattle.scrape_client.proofs.PageReading.{feeds_as}
use Rattle.scrape_client.proofs.page_so_far.PageSoFar.feed.Goals as goal

pub returns-in-Reading : goal.returns-in-Reading
returns-in-Reading c = λ limit format bytes x. feeds_as c.feed.result limit format bytes c.args.piece.now c.feed.new.self (c.feed.ensures.answer format Scraped limit bytes (subst (PageHasRead limit format bytes) c.in-Reading.is x))
