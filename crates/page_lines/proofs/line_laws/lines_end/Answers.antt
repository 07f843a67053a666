use Rattle.page_lines.proofs.Ends.{lines_of-end}
use Rattle.page_lines.proofs.line_laws.lines_end.Goals as goal

pub returns : goal.returns
returns c = lines_of-end
