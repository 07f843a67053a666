use Rattle.std.proofs.Common.{sym}
use Rattle.openmetrics_grammar.proofs.TokenSteps.{token-in_range, token-out_of_range, token-none}
use Rattle.openmetrics_grammar.proofs.numbers.number_token.Goals as goal

pub returns-in-Ok : goal.returns-in-Ok
returns-in-Ok c = sym (token-in_range c.args.token.now c.in-Ok.number (sym c.in-Ok.ensures))

pub returns-in-Err-OutOfRange : goal.returns-in-Err-OutOfRange
returns-in-Err-OutOfRange c = sym (token-out_of_range c.args.token.now (sym (rw c.in-Err-OutOfRange.field-0-is at c.in-Err-OutOfRange.ensures)))

pub returns-in-Err-NotANumber : goal.returns-in-Err-NotANumber
returns-in-Err-NotANumber c = sym (token-none c.args.token.now (sym (rw c.in-Err-NotANumber.field-0-is at c.in-Err-NotANumber.ensures)))
