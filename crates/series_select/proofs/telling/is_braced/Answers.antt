use Rattle.series_select.proofs.ListEnds.{braced_told, not_braced}
use Rattle.series_select.proofs.telling.is_braced.Goals as goal

pub returns-in-Some : goal.returns-in-Some
returns-in-Some c = braced_told c.args.inner.now c.in-Some.rest.now c.without_leading_blanks.result.now c.is_empty.result c.in-Some.ensures c.without_leading_blanks.ensures c.is_empty.ensures

pub returns-in-None : goal.returns-in-None
returns-in-None c = not_braced c.args.inner.now c.in-None.ensures
