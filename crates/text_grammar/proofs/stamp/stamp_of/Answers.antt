use Rattle.std.proofs.Common.{sym, ◌∙◌, ap, eqb-true, false-eqb, arith, ◌<◌, length}
use Rattle.page_model.specs.TextItems.{is_integer_token}
use Rattle.text_grammar.proofs.LineSteps.{stamp-nothing, stamp-none, stamp-some}
use Rattle.text_grammar.proofs.stamp.stamp_of.Goals as goal

pub returns-then-is_empty-clause-value : goal.returns-then-is_empty-clause-value
returns-then-is_empty-clause-value c = sym (stamp-nothing c.args.bytes.now (eqb-true _ 0 (sym c.if-is_empty.ensures)))

pub returns-then-not-is_integer-clause-value : goal.returns-then-not-is_integer-clause-value
returns-then-not-is_integer-clause-value c =
    let some : 0 < length c.args.bytes.now = omega (arith, false-eqb _ 0 c.if-is_empty.ensures) in
    sym (stamp-none c.args.bytes.now some (ap is_integer_token (sym c.without_leading_blanks-stamp.ensures.value) ∙ sym c.is_integer.ensures ∙ c.if-not-is_integer.true))

pub returns-clause-value : goal.returns-clause-value
returns-clause-value c =
    let some : 0 < length c.args.bytes.now = omega (arith, false-eqb _ 0 c.if-is_empty.ensures) in
    rw c.without_leading_blanks-stamp.ensures.value (sym (stamp-some c.args.bytes.now some (ap is_integer_token (sym c.without_leading_blanks-stamp.ensures.value) ∙ sym c.is_integer.ensures ∙ c.if-not-is_integer.false)))
