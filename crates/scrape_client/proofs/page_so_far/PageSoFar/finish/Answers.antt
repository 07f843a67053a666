-- The end of a page.
use Rattle.std.proofs.Common.{subst}
use Rattle.page_model.specs.declared.format.Treatment.TheVariants.{Scraped}
use Rattle.line_scan.specs.LineReading.{setting_of}
use Rattle.scrape_client.specs.PageReplies.{PageHasRead}
use Rattle.scrape_client.proofs.PageReading.{refused_now}
use Rattle.scrape_client.proofs.page_so_far.PageSoFar.finish.Goals as goal

pub returns-in-Stopped : goal.returns-in-Stopped
returns-in-Stopped c = λ limit format bytes x. refused_now c.in-Stopped.fault (setting_of format Scraped limit) bytes (subst (PageHasRead limit format bytes) c.in-Stopped.is x)

pub returns-in-Reading : goal.returns-in-Reading
returns-in-Reading c = λ limit format bytes x. c.finish_with.ensures.answer format Scraped limit bytes (subst (PageHasRead limit format bytes) c.in-Reading.is x)
