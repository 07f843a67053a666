use Rattle.std.proofs.Common.{IsUtf8}
use Rattle.text_grammar.proofs.LabelSteps.{label-no_name, label-no_opening, label-no_end, label-found}
use Rattle.text_grammar.proofs.labels.label_at.Goals as goal

pub returns-in_default : goal.returns-in_default
returns-in_default c = label-no_name c.args.bytes.now c.in_default.ensures

pub returns-in_default-opened_at : goal.returns-in_default-opened_at
returns-in_default-opened_at c = label-no_opening c.args.bytes.now c.in-Some.name c.in-Some.ensures c.in_default-opened_at.ensures.value

pub returns-in_default-quoted_at : goal.returns-in_default-quoted_at
returns-in_default-quoted_at c = label-no_end c.args.bytes.now c.in-Some.name c.in-Some.ensures c.in-Some-opened_at.opened.now c.in-Some-opened_at.ensures.value c.in_default-quoted_at.ensures.value

pub returns : goal.returns
returns c =
    let n = c.in-Some.ensures in
    let open_utf8 = λ (u : IsUtf8 c.args.bytes.now). c.in-Some-opened_at.ensures.utf8 (n.utf8_rest u) in
    record {
      label = label-found c.args.bytes.now c.in-Some.name n c.in-Some-opened_at.opened.now c.in-Some-quoted_at.quoted.written.now c.in-Some-quoted_at.quoted.rest.now c.without_leading_blanks.result.now
          c.in-Some-opened_at.ensures.value c.in-Some-quoted_at.ensures.value c.without_leading_blanks.ensures.value;
      backslash = c.in-Some-quoted_at.ensures.backslash;
      utf8_name = n.utf8_front;
      utf8_written = λ u. (c.in-Some-quoted_at.ensures.utf8 (open_utf8 u)).0;
      utf8_rest = λ u. c.without_leading_blanks.ensures.utf8 (c.in-Some-quoted_at.ensures.utf8 (open_utf8 u)).1;
    }
