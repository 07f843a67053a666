use Rattle.std.proofs.Common.{IsUtf8}
use Rattle.openmetrics_grammar.proofs.LabelSteps.{label-no_name, label-no_opening, label-no_end, label-found}
use Rattle.openmetrics_grammar.proofs.labels.label_at.Goals as goal

pub returns-in_default : goal.returns-in_default
returns-in_default c = label-no_name c.args.bytes.now c.in_default.ensures

pub returns-in_default-behind_text : goal.returns-in_default-behind_text
returns-in_default-behind_text c = label-no_opening c.args.bytes.now c.in-Some.name c.in-Some.ensures c.in_default-behind_text.ensures.value

pub returns-in_default-quoted_at : goal.returns-in_default-quoted_at
returns-in_default-quoted_at c = label-no_end c.args.bytes.now c.in-Some.name c.in-Some.ensures c.in-Some-behind_text.opened.now c.in-Some-behind_text.ensures.value c.in_default-quoted_at.ensures.value

pub returns : goal.returns
returns c =
    let n = c.in-Some.ensures in
    let inside = λ (u : IsUtf8 c.args.bytes.now). c.in-Some-quoted_at.ensures.utf8 (c.in-Some-behind_text.ensures.utf8 (n.utf8_rest u)) in
    record {
      label = label-found c.args.bytes.now c.in-Some.name n c.in-Some-behind_text.opened.now c.in-Some-quoted_at.quoted.written.now c.in-Some-quoted_at.quoted.rest.now
          c.in-Some-behind_text.ensures.value c.in-Some-quoted_at.ensures.value;
      backslash = c.in-Some-quoted_at.ensures.backslash;
      utf8_name = n.utf8_front;
      utf8_written = λ u. (inside u).0;
      utf8_rest = λ u. (inside u).1;
    }
