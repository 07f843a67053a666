use Rattle.page_feeding.proofs.reader.PageReader.feed.Goals as goal

pub returns-in-Err-clause-answer : goal.returns-in-Err-clause-answer
returns-in-Err-clause-answer g c = λ t limit fed s. rw c.stop.ensures.answer (c.in-Err.ensures.answer t limit fed s)
