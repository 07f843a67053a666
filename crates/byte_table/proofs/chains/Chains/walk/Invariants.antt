use Rattle.std.proofs.Common.{length}
use Rattle.byte_table.proofs.Linked.{IsOnWay}
use Rattle.byte_table.proofs.chains.Chains.walk.Given as goal

abbrev pub invariant-loop-at : goal.invariant-loop-at
invariant-loop-at l = IsOnWay l.strings (length l.self.heads.items) l.string l.hash l.at

abbrev pub decreases-loop-at : goal.decreases-loop-at
decreases-loop-at l = l.at
