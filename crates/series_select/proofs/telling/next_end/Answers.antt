use Rattle.std.proofs.Common.{[], ◌∷◌, refl}
use Rattle.line_scan.specs.declared.labels.AfterLabel.TheVariants.{End, Broken}
use Rattle.series_select.specs.SelectorReading.{matcher_at}
use Rattle.series_select.specs.SelectorSteps.{IsMatcherFound, matcher_of}
use Rattle.series_select.proofs.ListEnds.{end_told}
use Rattle.series_select.proofs.MatcherSteps.{next-end, next-broken, next-matcher}
use Rattle.series_select.proofs.telling.next_end.Goals as goal

pub returns-in-Some : goal.returns-in-Some
returns-in-Some c =
    end_told c.args.bytes.now [] [] (End c.in-Some.after)
    (next-end c.args.bytes.now c.without_leading_blanks-front.result.now c.in-Some.after.now [] c.without_leading_blanks-front.ensures c.in-Some.ensures.value)

pub returns-in-Some-matcher_at : goal.returns-in-Some-matcher_at
returns-in-Some-matcher_at c =
    let parts = c.in-Some-matcher_at.parts in
    let at : IsMatcherFound (matcher_at c.without_leading_blanks-front.result.now) parts = c.in-Some-matcher_at.ensures in
    end_told c.args.bytes.now [] (matcher_of parts ∷ []) c.after_label.result
    (next-matcher c.args.bytes.now c.without_leading_blanks-front.result.now parts.rest.now [] (matcher_of parts ∷ []) (matcher_of parts) c.after_label.result
    c.without_leading_blanks-front.ensures c.in_default.ensures.value at.matcher refl c.after_label.ensures)

pub returns-in-None : goal.returns-in-None
returns-in-None c =
    end_told c.args.bytes.now [] [] Broken
    (next-broken c.args.bytes.now c.without_leading_blanks-front.result.now c.without_leading_blanks-front.ensures c.in_default.ensures.value c.in-None.ensures)
