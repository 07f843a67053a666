use Rattle.exact_decimal.proofs.TokenChars.{token_passes}
use Rattle.exact_decimal.proofs.number_laws.token_chars_law.Goals as goal

pub returns : goal.returns
returns c = token_passes
