use Rattle.std.proofs.Common.{◌∙◌, sym, ap, Option}
use Rattle.std.specs.Prelude.{is_some}
use Rattle.series_select.specs.declared.selector.Selector.{Selector}
use Rattle.series_select.specs.SelectorReading.{bare_selector, selector_in, rest_of}
use Rattle.page_model.specs.TextItems.{without_leading_blanks}
use Rattle.series_select.proofs.ListEnds.{named_some}
use Rattle.series_select.proofs.MatcherSteps.{bare-named, bare-unnamed}
use Rattle.series_select.proofs.telling.has_selector.Goals as goal

pub returns-in-Some : goal.returns-in-Some
unfolding selector_in
returns-in-Some c =
    c.is_rest.ensures ∙ ap (λ cs. is_some (rest_of cs)) c.without_leading_blanks.ensures ∙ sym (named_some c.in-Some.name.front.now (rest_of (without_leading_blanks c.in-Some.name.rest.now)))
    ∙ ap (λ (s : Option Selector). is_some s) (bare-named c.without_leading_blanks-bytes.result.now c.in-Some.name c.in-Some.ensures ∙ ap bare_selector c.without_leading_blanks-bytes.ensures)

pub returns-in-None : goal.returns-in-None
unfolding selector_in
returns-in-None c =
    c.is_unnamed.ensures ∙ ap (λ (s : Option Selector). is_some s) (bare-unnamed c.without_leading_blanks-bytes.result.now c.in-None.ensures ∙ ap bare_selector c.without_leading_blanks-bytes.ensures)
