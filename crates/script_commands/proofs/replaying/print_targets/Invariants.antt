use Rattle.std.proofs.Common.{◌≡◌, ◌-◌, ◌<◌, ◌≤◌, ℕ, true, length, get_or, take}
use Rattle.script_commands.specs.Printing.{PrintedTargets}
use Rattle.script_commands.specs.Replays.{AreLastShown}
use Rattle.script_commands.proofs.replaying.print_targets.Given as goal

abbrev pub invariant-loop-at : goal.invariant-loop-at
invariant-loop-at g l =
    (l.at ≤ length l.targets) × (l.targets ≡ l.script.targets) × PrintedTargets l.script l.at (g.O.Sink.held l.initial.output) (g.O.Sink.held l.output)
    × (g.O.Sink.write_faults l.output ≡ g.O.Sink.write_faults l.initial.output) × ((k : ℕ) → k < l.at → l.script.header.rounds ≤ get_or l.visits k 0) × (length l.visits ≡ length l.targets)
    × (l.page ≡ true → AreLastShown l.script.header (take l.at l.script.targets) l.shown.items)

abbrev pub decreases-loop-at : goal.decreases-loop-at
decreases-loop-at g l = length l.targets - l.at
