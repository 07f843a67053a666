use Rattle.std.proofs.Common.{sym, ◌∙◌}
use Rattle.series_select.proofs.ListEnds.{selector_told, none_told}
use Rattle.series_select.proofs.telling.is_selector.Goals as goal

pub returns-clause-one : goal.returns-clause-one
returns-clause-one c = λ e. selector_told c.args.text.now (sym c.has_selector.ensures ∙ e)

pub returns-clause-none : goal.returns-clause-none
returns-clause-none c = λ e. none_told c.args.text.now (sym c.has_selector.ensures ∙ e)
