use Rattle.std.proofs.Common.{◌∙◌, sym}
use Rattle.std.proofs.lemmas.Option.{none-some}
use Rattle.series_select.proofs.SelectorSound.{selector_sound}
use Rattle.series_select.proofs.SelectorComplete.{selector_complete}
use Rattle.series_select.proofs.parsing.parse.Goals as goal

pub returns-in-Ok-Some-clause-ok : goal.returns-in-Ok-Some-clause-ok
returns-in-Ok-Some-clause-ok c = selector_sound c.args.text.now c.in-Ok-Some.selector (sym (rw c.in-Ok-Some.field-0-is at c.in-Ok-Some.ensures))

pub returns-in-Ok-None-clause-form : goal.returns-in-Ok-None-clause-form
returns-in-Ok-None-clause-form c = λ s spelled. none-some s ((rw c.in-Ok-None.field-0-is at c.in-Ok-None.ensures) ∙ selector_complete c.args.text.now s spelled)
