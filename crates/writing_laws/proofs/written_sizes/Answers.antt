use Rattle.writing_laws.proofs.FewLines.{few_lines, few_readings}
use Rattle.writing_laws.proofs.ShortFamilies.{writes_short_lines}
use Rattle.writing_laws.proofs.written_sizes.Goals as goal

pub returns-clause-lines : goal.returns-clause-lines
returns-clause-lines c = few_lines

pub returns-clause-bytes : goal.returns-clause-bytes
returns-clause-bytes c = writes_short_lines

pub returns-clause-readings : goal.returns-clause-readings
returns-clause-readings c = few_readings
