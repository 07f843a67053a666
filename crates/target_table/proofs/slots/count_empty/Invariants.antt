use Rattle.std.proofs.Common.{◌≡◌, ◌≤◌, take, count_by, is_none}
use Rattle.target_table.proofs.slots.count_empty.Given as goal

-- the empty slots so far
abbrev pub invariant-loop-slot : goal.invariant-loop-slot
invariant-loop-slot g l = (l.empty ≡ count_by is_none (take l.slot-index l.slots)) × (l.empty ≤ l.slot-index)
