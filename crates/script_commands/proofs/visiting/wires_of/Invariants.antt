use Rattle.std.proofs.Common.{◌≡◌, ◌+◌, ◌≤◌, ◌++◌, List, reverse}
use Rattle.std.specs.List.{AllZip}
use Rattle.bridge_ports.specs.declared.memory_world.Shelved.{Shelved}
use Rattle.script_commands.specs.Rounds.{AreWiresOf}
use Rattle.script_commands.proofs.visiting.wires_of.Given as goal

-- whatever are the wires of the tracks that are left, those that were taken out follow them
abbrev pub invariant-loop : goal.invariant-loop
invariant-loop l =
    ((ws : List Shelved) → AllZip AreWiresOf l.left.items ws → AllZip AreWiresOf l.fn.tracks.items (ws ++ reverse l.wires.items)) × (l.left.len + l.counter ≡ l.fn.tracks.len) × (l.wires.len ≡ l.counter)
    × (l.fn.tracks.len ≤ l.wires.cap)
