use Rattle.std.proofs.Common.{ap}
use Rattle.std.specs.Option.{option_copied}
use Rattle.page_model.specs.declared.format.Format.TheVariants.{Text}
use Rattle.line_scan.specs.LineReading.{says_fault}
use Rattle.line_scan.specs.LineRooms.{IsHeadIn}
use Rattle.text_grammar.proofs.LineSteps.{sample-no_head, sample-no_stamp, sample-parts}
use Rattle.text_grammar.proofs.line.sample_line.Goals as goal

pub returns-in_default : goal.returns-in_default
returns-in_default c = ap (says_fault Text c.args.treatment) (sample-no_head c.args.bytes.now (rw c.in_default.is at c.in_ok-head.ensures))

pub returns-in_default-stamp_of : goal.returns-in_default-stamp_of
returns-in_default-stamp_of c =
    let head : IsHeadIn Text c.args.bytes.now c.head_at.new.room c.in-Some.head = rw c.in-Some.is at c.in_ok-head.ensures in
    ap (says_fault Text c.args.treatment) (sample-no_stamp c.args.bytes.now head.labels c.in-Some.head head.is_head c.cut_chars-value.result.front.now c.cut_chars-value.result.rest.now
    c.cut_chars-value.ensures.front c.cut_chars-value.ensures.rest c.in_default-stamp_of.ensures.value)

pub returns : goal.returns
returns c =
    let head : IsHeadIn Text c.args.bytes.now c.head_at.new.room c.in-Some.head = rw c.in-Some.is at c.in_ok-head.ensures in
    rw (sample-parts c.args.bytes.now head.labels c.in-Some.head head.is_head c.cut_chars-value.result.front.now c.cut_chars-value.result.rest.now
    c.cut_chars-value.ensures.front c.cut_chars-value.ensures.rest (option_copied c.in-Some-stamp_of.stamp) c.in-Some-stamp_of.ensures.value) (c.read_sample.ensures head.labels head.held)
