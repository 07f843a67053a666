use Rattle.std.proofs.Common.{subst}
use Rattle.page_feeding.specs.PageFeeding.{Fed, TakesLine}
use Rattle.page_feeding.proofs.PageSteps.{takes-item, takes-refusal}
use Rattle.page_feeding.proofs.SpelledItems.{may_take}
use Rattle.page_feeding.proofs.reader.PageReader.read_line.Goals as goal

pub returns-in-Ok-Item : goal.returns-in-Ok-Item
returns-in-Ok-Item g c = subst (λ (x : Fed). TakesLine g.G.Grammar.format x (record { treatment = c.self.inside.treatment; lines = c.self.inside.lines; checker = c.item.new.self; stopped = c.self.inside.stopped }) c.item.result) c.self.view_is
    (takes-item g.G.Grammar.format c.self.inside.treatment c.self.inside.lines c.self.inside.checker c.self.inside.stopped c.line.result.now c.number-line.result c.in-Ok-Item.item c.item.new.self c.item.result
    c.line.ensures.value c.number-line.ensures (rw c.in-Ok-Item.field-0-is at c.in-Ok-Item.ensures) c.item.ensures.answer c.item.ensures.stands)

pub returns-in-Ok-Refused : goal.returns-in-Ok-Refused
returns-in-Ok-Refused g c = rw (← c.self.view_is) (takes-refusal g.G.Grammar.format (record { treatment = c.self.inside.treatment; lines = c.self.inside.lines; checker = c.self.inside.checker; stopped = c.self.inside.stopped }) c.line.result.now c.number-line.result c.in-Ok-Refused.rule c.line.ensures.value c.number-line.ensures (rw c.in-Ok-Refused.field-0-is at c.in-Ok-Refused.ensures))

pub item-requires : goal.item-requires
item-requires g c = may_take g.G.Grammar.format c.self.inside.treatment c.self.inside.checker c.line.result.now c.in-Ok-Item.item c.self.invariant.goes_by c.line.ensures.plain (rw c.in-Ok-Item.field-0-is at c.in-Ok-Item.ensures)
