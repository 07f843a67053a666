use Rattle.std.proofs.Common.{◌≡◌, ◌-◌, ◌≤◌, length}
use Rattle.script_commands.specs.Printing.{PrintedSome}
use Rattle.script_commands.proofs.replaying.print_replies.Given as goal

abbrev pub invariant-loop-at : goal.invariant-loop-at
invariant-loop-at g l =
    (l.at ≤ length l.replies) × (l.replies ≡ l.target.scrapes) × PrintedSome l.header l.target l.at l.state (g.O.Sink.held l.initial.output) (g.O.Sink.held l.output)
    × (g.O.Sink.write_faults l.output ≡ g.O.Sink.write_faults l.initial.output) × (l.at ≤ l.visits)

abbrev pub decreases-loop-at : goal.decreases-loop-at
decreases-loop-at g l = length l.replies - l.at
