use Rattle.std.proofs.Common.{◌≡◌, ◌+◌, ◌≤◌, ◌++◌, map, reverse, Some}
use Rattle.target_table.proofs.slots.fill.Given as goal

-- the tracks that are left, and those in slots, the last first, are all
abbrev pub invariant-loop : goal.invariant-loop
invariant-loop g l = (map Some l.tracks.items ++ reverse l.slots.items ≡ map Some l.fn.tracks.items) × (l.tracks.len + l.counter ≡ l.fn.tracks.len) × (l.slots.len ≡ l.counter) × (l.fn.tracks.len ≤ l.slots.cap) × (l.tracks.cap ≡ l.fn.tracks.cap)
