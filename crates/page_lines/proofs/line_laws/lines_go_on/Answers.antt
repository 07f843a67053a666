use Rattle.page_lines.proofs.Ends.{lines_of-more}
use Rattle.page_lines.proofs.line_laws.lines_go_on.Goals as goal

pub returns : goal.returns
returns c = lines_of-more
