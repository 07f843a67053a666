use Rattle.std.proofs.Common.{◌≡◌, ◌∙◌, Option, ap, subst}
use Rattle.std.specs.Prelude.{IfOk}
use Rattle.series_select.specs.declared.selector.Selector.{Selector}
use Rattle.series_select.specs.SelectorReading.{bare_selector, selector_in}
use Rattle.series_select.proofs.MatcherSteps.{bare-named, bare-unnamed}
use Rattle.series_select.proofs.parsing.selector_in.Goals as goal

pub returns-in-Some : goal.returns-in-Some
unfolding selector_in
returns-in-Some c =
    subst (λ (s : Option Selector). IfOk c.named_selector.result (λ found. found ≡ s))
    (bare-named c.without_leading_blanks-bytes.result.now c.in-Some.name c.in-Some.ensures ∙ ap bare_selector c.without_leading_blanks-bytes.ensures)
    c.named_selector.ensures

pub returns-in-None : goal.returns-in-None
unfolding selector_in
returns-in-None c =
    subst (λ (s : Option Selector). IfOk c.unnamed_selector.result (λ found. found ≡ s))
    (bare-unnamed c.without_leading_blanks-bytes.result.now c.in-None.ensures ∙ ap bare_selector c.without_leading_blanks-bytes.ensures)
    c.unnamed_selector.ensures

pub named_selector-requires : goal.named_selector-requires
named_selector-requires c = c.in-Some.ensures.utf8_front
