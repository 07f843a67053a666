use Rattle.std.proofs.Common.{sym, ◌∙◌}
use Rattle.openmetrics_grammar.proofs.TokenSteps.{real-no_number, real-not_finite, real-found}
use Rattle.openmetrics_grammar.proofs.numbers.real_token.Goals as goal

pub returns-in_default : goal.returns-in_default
returns-in_default c = sym (real-no_number c.args.token.now c.in_default.ensures)

pub returns-then-is_no_real : goal.returns-then-is_no_real
returns-then-is_no_real c = sym (real-not_finite c.args.token.now c.in-Some.read c.in-Some.ensures (sym c.is_no_real.ensures ∙ c.if-is_no_real.true))

pub returns : goal.returns
returns c = sym (real-found c.args.token.now c.in-Some.read c.in-Some.ensures (sym c.is_no_real.ensures ∙ c.if-is_no_real.false))
