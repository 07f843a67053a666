use Rattle.std.proofs.Common.{◌≡◌, ◌-◌, ◌≤◌, true, length, take}
use Rattle.script_commands.specs.Printing.{PrintedTargets}
use Rattle.script_commands.specs.Replays.{AreLastShown}
use Rattle.script_commands.proofs.TurnLaws.{VisitedFirst}
use Rattle.script_commands.proofs.in_turn.print_in_turn.Given as goal

-- the targets so far
abbrev pub invariant-loop-at : goal.invariant-loop-at
invariant-loop-at g l =
    (l.at ≤ length l.targets) × (l.targets ≡ l.script.targets) × PrintedTargets l.script l.at (g.O.Sink.held l.initial.output) (g.O.Sink.held l.output)
    × (g.O.Sink.write_faults l.output ≡ g.O.Sink.write_faults l.initial.output) × (l.wires.len ≡ l.at) × (length l.targets ≤ l.wires.cap) × VisitedFirst l.wanted.keeps l.script l.at l.wires.items
    × (l.wanted.page ≡ true → AreLastShown l.script.header (take l.at l.script.targets) l.shown.items)

abbrev pub decreases-loop-at : goal.decreases-loop-at
decreases-loop-at g l = length l.targets - l.at
