use Rattle.page_lines.proofs.TellingOn.{told_first}
use Rattle.page_lines.proofs.line_laws.told_are_first.Goals as goal

pub returns : goal.returns
returns c = told_first
