use Rattle.std.proofs.Common.{refl}
use Rattle.openmetrics_grammar.proofs.TokenSteps.{token-behind, token-nothing}
use Rattle.openmetrics_grammar.proofs.numbers.token_at.Goals as goal

pub returns-in-Some-clause-value : goal.returns-in-Some-clause-value
returns-in-Some-clause-value c = rw (token-behind c.args.bytes.now c.in-Some.text.now c.in-Some.ensures.value, c.cut_token.ensures.front, c.cut_token.ensures.rest) refl

pub returns-in-None-clause-value : goal.returns-in-None-clause-value
returns-in-None-clause-value c = rw (token-nothing c.args.bytes.now c.in-None.ensures.value) refl
