use Rattle.std.proofs.Common.{◌≡◌, ◌++◌, take}
use Rattle.packed_keys.specs.Partings.{keys_behind}
use Rattle.packed_keys.proofs.parting.put_keys.Given as goal

-- the keys passed stand behind the others
abbrev pub invariant-loop-at : goal.invariant-loop-at
invariant-loop-at l = l.out.items ≡ l.initial.out.items ++ take l.at (keys_behind l.fn.keys)
