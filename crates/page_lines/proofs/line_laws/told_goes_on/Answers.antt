use Rattle.page_lines.proofs.TellingOn.{told_goes_on}
use Rattle.page_lines.proofs.line_laws.told_goes_on.Goals as goal

pub returns : goal.returns
returns c = told_goes_on
