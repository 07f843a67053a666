use Rattle.page_model.specs.declared.format.Treatment.TheVariants.{Scraped}
use Rattle.page_model.specs.Written.{text_setting}
use Rattle.page_model.proofs.RightPages.{nothing_is_right}
use Rattle.page_model.proofs.page.Page.empty.Goals as goal

pub invariant_of-result : goal.invariant_of-result
invariant_of-result c = rw c.new.ensures (text_setting Scraped 0, nothing_is_right Scraped 0)
