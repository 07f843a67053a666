use Rattle.std.proofs.Common.{◌∙◌, sym}
use Rattle.exact_decimal.proofs.Comparing.{cmp_positive, cmp_negative, cmp_below, cmp_above}
use Rattle.exact_decimal.proofs.order.compare.Goals as goal

pub returns-in-true-true : goal.returns-in-true-true
returns-in-true-true c = c.compare_sizes.ensures ∙ sym (cmp_negative _ _ (sym c.in-true-true.ensures.negative) (sym c.in-true-true.ensures'.negative))

pub returns-in-true-false : goal.returns-in-true-false
returns-in-true-false c = sym (cmp_below _ _ c.negative.ensures.normal (sym c.in-true-false.ensures.negative) (sym c.in-true-false.ensures'.negative))

pub returns-in-false-true : goal.returns-in-false-true
returns-in-false-true c = sym (cmp_above _ _ c.negative-2.ensures.normal (sym c.in-false-true.ensures.negative) (sym c.in-false-true.ensures'.negative))

pub returns-in-false-false : goal.returns-in-false-false
returns-in-false-false c = c.compare_sizes-in-false-false.ensures ∙ sym (cmp_positive _ _ (sym c.in-false-false.ensures.negative) (sym c.in-false-false.ensures'.negative))
