use Rattle.std.proofs.Common.{◌≡◌, ◌+◌, ◌≤◌, ◌++◌, map, reverse, Some}
use Rattle.target_table.proofs.slots.clear.Given as goal

-- the slots that are left, and the tracks, the last first, are all
abbrev pub invariant-loop : goal.invariant-loop
invariant-loop g l = (l.slots.items ++ map Some (reverse l.tracks.items) ≡ l.fn.slots.items) × (l.slots.len + l.counter ≡ l.fn.slots.len) × (l.tracks.len ≡ l.counter) × (l.fn.slots.len ≤ l.tracks.cap)
