use Rattle.series_select.specs.SelectorReading.{matcher_at}
use Rattle.series_select.specs.SelectorSteps.{IsMatcherFound, matcher_of}
use Rattle.series_select.proofs.MatcherSteps.{next-end, next-broken, next-matcher}
use Rattle.series_select.proofs.parsing.next_matcher.Goals as goal

pub returns-in-Some : goal.returns-in-Some
returns-in-Some c = next-end c.args.bytes.now c.without_leading_blanks-bytes.result.now c.in-Some.after.now c.args.matchers.now.items c.without_leading_blanks-bytes.ensures c.in-Some.ensures.value

pub returns-in_default-matcher_at : goal.returns-in_default-matcher_at
returns-in_default-matcher_at c = next-broken c.args.bytes.now c.without_leading_blanks-bytes.result.now c.without_leading_blanks-bytes.ensures c.in_default.ensures.value c.in_default-matcher_at.ensures

pub returns : goal.returns
returns c =
    let parts = c.in-Some-matcher_at.parts in
    let at : IsMatcherFound (matcher_at c.without_leading_blanks-bytes.result.now) parts = c.in-Some-matcher_at.ensures in
    next-matcher c.args.bytes.now c.without_leading_blanks-bytes.result.now parts.rest.now c.args.matchers.now.items c.push.new.self.items (matcher_of parts) c.after_label.result
    c.without_leading_blanks-bytes.ensures c.in_default.ensures.value at.matcher (rw (← c.in_ok-matcher.ensures) c.in_ok-push.ensures.items) c.after_label.ensures
