use Rattle.std.proofs.Common.{subst, sym, IsUtf8}
use Rattle.openmetrics_grammar.proofs.TokenSteps.{utf8_from_space}
use Rattle.openmetrics_grammar.proofs.numbers.cut_token.Goals as goal

pub returns-clause-utf8 : goal.returns-clause-utf8
returns-clause-utf8 c = λ u. subst IsUtf8 (sym c.cut_chars.ensures.rest) (utf8_from_space c.args.bytes.now u)
