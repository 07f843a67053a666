use Rattle.std.proofs.Common.{Option, List, ap, sym, ◌∙◌}
use Rattle.std.specs.Prelude.{is_some}
use Rattle.series_select.specs.declared.selector.Matcher.{Matcher}
use Rattle.series_select.proofs.ListEnds.{no_rest_left, list_left, other_left}
use Rattle.series_select.proofs.telling.is_rest.Goals as goal

pub returns-then-is_empty : goal.returns-then-is_empty
returns-then-is_empty c = no_rest_left c.args.bytes.now (sym c.is_empty.ensures ∙ c.if-is_empty.true)

pub returns-in-Some : goal.returns-in-Some
returns-in-Some c = c.is_braced.ensures ∙ ap (λ (o : Option (List Matcher)). is_some o) (sym (list_left c.args.bytes.now c.in-Some.inner.now c.in-Some.ensures.value))

pub returns-in-None : goal.returns-in-None
returns-in-None c = other_left c.args.bytes.now (sym c.is_empty.ensures ∙ c.if-is_empty.false) c.in-None.ensures.value
