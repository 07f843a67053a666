use Rattle.std.proofs.Common.{◌≡◌, ◌++◌, take}
use Rattle.packed_keys.specs.Partings.{keys_behind}
use Rattle.staleness.specs.Vanished.{untimed_keys}
use Rattle.staleness.proofs.keys.put_keys.Given as goal

-- the keys of the readings passed stand behind the others
abbrev pub invariant-loop-reading : goal.invariant-loop-reading
invariant-loop-reading l = keys_behind l.keys.items ≡ keys_behind l.initial.keys.items ++ untimed_keys l.fn.honor (take l.reading-index l.fn.readings)
