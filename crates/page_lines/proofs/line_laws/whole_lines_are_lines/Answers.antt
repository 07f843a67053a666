use Rattle.page_lines.proofs.TellingOn.{whole_lines}
use Rattle.page_lines.proofs.line_laws.whole_lines_are_lines.Goals as goal

pub returns : goal.returns
returns c = whole_lines
