-- The first fault of a page.
use Rattle.std.proofs.Common.{Err, subst}
use Rattle.page_model.specs.declared.fault.PageFault.{PageFault}
use Rattle.page_model.specs.declared.format.Treatment.TheVariants.{Scraped}
use Rattle.page_feeding.specs.PageFeeding.{Answers}
use Rattle.line_scan.specs.LineReading.{setting_of}
use Rattle.scrape_client.proofs.page_so_far.PageSoFar.end.Goals as goal

pub returns-in-Err-Refused : goal.returns-in-Err-Refused
returns-in-Err-Refused c = λ limit format bytes x.
    subst (λ (f : PageFault). Answers (setting_of format Scraped limit) bytes (Err f)) c.in-Err-Refused.field-0-is (c.in-Err-Refused.ensures limit format bytes x)
