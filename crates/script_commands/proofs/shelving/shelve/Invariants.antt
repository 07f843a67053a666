use Rattle.std.proofs.Common.{◌≡◌, ◌+◌, reverse}
use Rattle.std.specs.List.{AllByRecursion}
use Rattle.script_commands.specs.Shelves.{IsFreePair, with_shelved, KeepsAllButShelf}
use Rattle.script_commands.proofs.shelving.shelve.Given as goal

-- the world, once the wires that are left are handed in too, is that with all of them
abbrev pub invariant-loop : goal.invariant-loop
invariant-loop g l =
    (with_shelved (reverse l.left.items) (g.W.World.seen l.world) ≡ with_shelved l.fn.wires.items (g.W.World.seen l.initial.world)) × AllByRecursion IsFreePair (reverse l.left.items) × (l.left.len + l.counter ≡ l.fn.wires.len)
    × KeepsAllButShelf (g.W.World.seen l.initial.world) (g.W.World.seen l.world)
