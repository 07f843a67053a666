use Rattle.page_model.specs.declared.format.Treatment.TheVariants.{Scraped}
use Rattle.program_words.specs.Limits.{most_samples}
use Rattle.page_commands.proofs.pages.FedPage.take.Goals as goal

pub returns-in-Ok-clause-fed : goal.returns-in-Ok-clause-fed
returns-in-Ok-clause-fed c = λ format bytes fed. c.in-Ok.ensures.answer format Scraped most_samples bytes (rw c.in-Reading.is at fed)

pub returns-in-Err-Refused-clause-fed : goal.returns-in-Err-Refused-clause-fed
returns-in-Err-Refused-clause-fed c = λ format bytes fed.
    rw c.in-Err-Refused.field-0-is at (c.in-Err-Refused.ensures.answer format Scraped most_samples bytes (rw c.in-Reading.is at fed))
