use Rattle.page_feeding.proofs.PageEnds.{end-closed}
use Rattle.page_feeding.proofs.reader.PageReader.finish_with.Goals as goal

pub returns-in-Ok-clause-answer : goal.returns-in-Ok-clause-answer
returns-in-Ok-clause-answer g c = λ t limit fed s. end-closed g.G.Grammar.format t limit fed c.in-Ok.checker c.in-Ok.end (c.in-Ok.ensures.answer t limit fed s) c.close.result c.close.ensures.answer c.close.ensures.page
