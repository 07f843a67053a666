use Rattle.std.proofs.Common.{take}
use Rattle.byte_table.specs.Finding.{Finds}
use Rattle.byte_table.proofs.ordered.Ordered.of.Given as goal

abbrev pub invariant-loop-at : goal.invariant-loop-at
invariant-loop-at l = Finds l.ordered (take l.at l.strings)
