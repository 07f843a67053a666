-- A new reader stands for no bytes.
use Rattle.page_lines.proofs.Standing.{stands-new}
use Rattle.page_lines.proofs.Lines.new.Goals as goal

pub returns-clause-stands : goal.returns-clause-stands
returns-clause-stands c = rw c.in_ok-with_capacity.ensures.items (stands-new c.args.most)
