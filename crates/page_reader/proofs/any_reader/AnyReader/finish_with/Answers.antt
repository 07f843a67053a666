use Rattle.line_scan.specs.LineReading.{setting_of}
use Rattle.page_feeding.specs.PageFeeding.{Answers}
use Rattle.page_reader.specs.declared.any_reader.AnyReader.TheVariants.{Text, OpenMetrics}
use Rattle.page_reader.proofs.AnyReaders.{end_in}
use Rattle.page_reader.proofs.any_reader.AnyReader.finish_with.Goals as goal

pub returns-in-Text-clause-answer : goal.returns-in-Text-clause-answer
returns-in-Text-clause-answer c = rw c.in-Text.is (end_in (λ f t limit fed. Answers (setting_of f t limit) fed c.finish_with.result) (Text c.in-Text.page) c.finish_with.ensures.answer)

pub returns-in-OpenMetrics-clause-answer : goal.returns-in-OpenMetrics-clause-answer
returns-in-OpenMetrics-clause-answer c =
    rw c.in-OpenMetrics.is (end_in (λ f t limit fed. Answers (setting_of f t limit) fed c.finish_with-in-OpenMetrics.result) (OpenMetrics c.in-OpenMetrics.page) c.finish_with-in-OpenMetrics.ensures.answer)
