use Rattle.std.proofs.Common.{sym, subst}
use Rattle.page_feeding.specs.PageFeeding.{Stands}
use Rattle.page_feeding.proofs.PageEnds.{ended-clean, ended-open}
use Rattle.page_feeding.proofs.reader.PageReader.read_rest.Goals as goal

pub returns-in-Clean-clause-answer : goal.returns-in-Clean-clause-answer
returns-in-Clean-clause-answer g c = λ t limit fed s.
    ended-clean g.G.Grammar.format t limit fed _ (subst (Stands g.G.Grammar.format t limit fed) (sym c.self.view_is) s) c.finish.new.self c.finish.ensures.most c.in-Clean.ensures.end c.number.result c.number.ensures

pub returns-in-Open-clause-answer : goal.returns-in-Open-clause-answer
returns-in-Open-clause-answer g c = λ t limit fed s.
    c.read_last.ensures t limit fed (ended-open g.G.Grammar.format t limit fed _ (subst (Stands g.G.Grammar.format t limit fed) (sym c.self.view_is) s) c.finish.new.self c.finish.ensures.most
    c.in-Open.ensures.stands c.in-Open.ensures.end c.self.invariant.few)
