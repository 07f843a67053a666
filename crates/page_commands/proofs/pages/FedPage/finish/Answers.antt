use Rattle.page_model.specs.declared.format.Treatment.TheVariants.{Scraped}
use Rattle.program_words.specs.Limits.{most_samples}
use Rattle.page_commands.proofs.PageLaws.{fault_of}
use Rattle.page_commands.proofs.pages.FedPage.finish.Goals as goal

pub returns-in-Reading : goal.returns-in-Reading
returns-in-Reading c = λ format bytes fed. c.finish.ensures.answer format Scraped most_samples bytes (rw c.in-Reading.is at fed)

pub returns-in-Faulty : goal.returns-in-Faulty
returns-in-Faulty c = λ format bytes fed. fault_of format bytes c.in-Faulty.line c.in-Faulty.rule (rw c.in-Faulty.is at fed)
