use Rattle.std.proofs.Common.{◌-◌, length, drop}
use Rattle.target_table.specs.Search.{IsNextDue}
use Rattle.target_table.proofs.turn.whose_turn.Given as goal

-- the next one of the slots that were looked at
abbrev pub invariant-loop-behind : goal.invariant-loop-behind
invariant-loop-behind g l = IsNextDue l.rounds (drop (length l.slots - l.behind) l.slots) (length l.slots - l.behind) l.next
