use Rattle.std.proofs.Common.{sym, ◌∙◌}
use Rattle.exact_decimal.proofs.Reading.{read_long, read_scanned}
use Rattle.exact_decimal.proofs.number.read.Goals as goal

pub returns-then-token-gt-MOST_BYTES : goal.returns-then-token-gt-MOST_BYTES
returns-then-token-gt-MOST_BYTES c = sym (read_long _ c.in-Some.ensures.real c.if-token-gt-MOST_BYTES.true)

pub returns : goal.returns
returns c = c.real_number.ensures ∙ sym (read_scanned _ _ _ _ _ _ _ c.in-Some.ensures c.if-token-gt-MOST_BYTES.false)
