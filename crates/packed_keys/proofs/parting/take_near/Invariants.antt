use Rattle.std.proofs.Common.{◌≤◌, length, take}
use Rattle.packed_keys.specs.Partings.{IsParted, keys_behind}
use Rattle.packed_keys.proofs.parting.take_near.Given as goal

-- the keys that are asked for and were passed are parted from those up to the next place
abbrev pub invariant-loop-at : goal.invariant-loop-at
invariant-loop-at l = record {
  next : l.next ≤ length l.fn.keys;
  parted : IsParted (take l.at (keys_behind l.fn.asked)) (take l.next (keys_behind l.fn.keys)) l.strays.items l.left.items;
}
