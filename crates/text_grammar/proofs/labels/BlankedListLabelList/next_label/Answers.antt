use Rattle.std.proofs.Common.{arith}
use Rattle.line_scan.specs.LabelReading.{IsLabelFound, label_of}
use Rattle.page_model.specs.TextReading.{label_at}
use Rattle.text_grammar.proofs.LabelSteps.{next-end, next-broken, next-label}
use Rattle.text_grammar.proofs.labels.BlankedListLabelList.next_label.Goals as goal

pub returns-in-Some : goal.returns-in-Some
returns-in-Some c = (c.in-Some.ensures.utf8 (omega arith) (c.without_leading_blanks-bytes.ensures.utf8 c.requires), next-end c.args.bytes.now c.without_leading_blanks-bytes.result.now c.in-Some.after.now c.args.labels.now.items c.without_leading_blanks-bytes.ensures.value c.in-Some.ensures.value)

pub returns-in_default-label_at : goal.returns-in_default-label_at
returns-in_default-label_at c = next-broken c.args.bytes.now c.without_leading_blanks-bytes.result.now c.without_leading_blanks-bytes.ensures.value c.in_default.ensures.value c.in_default-label_at.ensures

pub returns : goal.returns
returns c =
    let parts = c.in-Some-label_at.parts in
    let at : IsLabelFound (label_at c.without_leading_blanks-bytes.result.now) c.without_leading_blanks-bytes.result.now parts = c.in-Some-label_at.ensures in
    let u = c.without_leading_blanks-bytes.ensures.utf8 c.requires in
    next-label c.args.bytes.now c.without_leading_blanks-bytes.result.now parts.rest.now c.args.labels.now.items c.push.new.self.items (label_of parts) c.after_label.result
    c.without_leading_blanks-bytes.ensures.value c.in_default.ensures.value at.label (rw (← c.in_ok-label.ensures) c.in_ok-push.ensures.items) (at.utf8_rest u) c.after_label.ensures
