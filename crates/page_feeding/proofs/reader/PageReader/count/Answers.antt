use Rattle.page_feeding.proofs.PageEnds.{end-counted}
use Rattle.page_feeding.proofs.reader.PageReader.count.Goals as goal

pub returns-in-Ok-clause-answer : goal.returns-in-Ok-clause-answer
returns-in-Ok-clause-answer g c = λ t limit fed s. end-counted g.G.Grammar.format t limit fed c.in-Ok.checker c.in-Ok.end (c.in-Ok.ensures.answer t limit fed s) c.count.result c.count.ensures.answer c.count.ensures.counts
