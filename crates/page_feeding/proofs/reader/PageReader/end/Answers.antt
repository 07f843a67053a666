use Rattle.std.proofs.Common.{sym, subst}
use Rattle.family_rules.specs.Checking.{Checking}
use Rattle.page_feeding.specs.PageFeeding.{IsEnded}
use Rattle.page_feeding.proofs.reader.PageReader.end.Goals as goal

pub returns-in-Ok-clause-answer : goal.returns-in-Ok-clause-answer
returns-in-Ok-clause-answer g c = λ t limit fed s. subst (λ (checker : Checking). IsEnded g.G.Grammar.format t limit fed checker c.in-Ok.end) (sym c.into_parts-checker.ensures) (c.in-Ok.ensures.answer t limit fed s)
