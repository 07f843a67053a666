use Rattle.page_lines.proofs.TellingOn.{long_next}
use Rattle.page_lines.proofs.line_laws.too_long_is_next.Goals as goal

pub returns : goal.returns
returns c = long_next
