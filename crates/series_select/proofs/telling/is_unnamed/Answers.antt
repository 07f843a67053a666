use Rattle.std.proofs.Common.{◌∙◌}
use Rattle.series_select.proofs.ListEnds.{no_list, no_matchers, matchers_left}
use Rattle.series_select.proofs.telling.is_unnamed.Goals as goal

pub returns-in_default : goal.returns-in_default
returns-in_default c = no_list c.args.bytes.now c.in_default.ensures.value

pub returns-in-Some-behind : goal.returns-in-Some-behind
returns-in-Some-behind c = no_matchers c.args.bytes.now c.in-Some.inner.now c.without_leading_blanks.result.now _ c.in-Some.ensures.value c.without_leading_blanks.ensures c.in-Some-behind.ensures.value

pub returns-in-None : goal.returns-in-None
returns-in-None c = c.is_braced.ensures ∙ matchers_left c.args.bytes.now c.in-Some.inner.now c.without_leading_blanks.result.now c.in-Some.ensures.value c.without_leading_blanks.ensures c.in-None.ensures.value
