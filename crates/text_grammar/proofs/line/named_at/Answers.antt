use Rattle.std.proofs.Common.{sym, ◌∙◌}
use Rattle.text_grammar.proofs.LineSteps.{named-none, named-stuck, named-found}
use Rattle.text_grammar.proofs.line.named_at.Goals as goal

pub returns-in_default : goal.returns-in_default
returns-in_default c = named-none c.args.bytes.now c.without_leading_blanks.result.now c.without_leading_blanks.ensures.value c.in_default.ensures

pub returns-then-not-at_blank : goal.returns-then-not-at_blank
returns-then-not-at_blank c = named-stuck c.args.bytes.now c.without_leading_blanks.result.now c.in-Some.cut c.without_leading_blanks.ensures.value c.in-Some.ensures (sym c.at_blank.ensures ∙ c.if-not-at_blank.true)

pub returns : goal.returns
returns c = record {
  found = rw c.without_leading_blanks-2.ensures.value (named-found c.args.bytes.now c.without_leading_blanks.result.now c.in-Some.cut c.without_leading_blanks.ensures.value c.in-Some.ensures (sym c.at_blank.ensures ∙ c.if-not-at_blank.false));
  utf8_front = c.in-Some.ensures.utf8_front;
  utf8_rest = λ u. c.without_leading_blanks-2.ensures.utf8 (c.in-Some.ensures.utf8_rest (c.without_leading_blanks.ensures.utf8 u));
}
