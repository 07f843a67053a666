use Rattle.std.proofs.Common.{◌≡◌}
use Rattle.script_commands.specs.Printing.{PrintedSome}
use Rattle.script_commands.specs.Rounds.{IsAtRound}
use Rattle.script_commands.proofs.in_turn.print_rounds.Given as goal

-- the rounds so far
abbrev pub invariant-loop : goal.invariant-loop
invariant-loop g l =
    IsAtRound l.turn.keeps l.turn.header.now l.turn.target.now l.turn.place l.counter l.track × PrintedSome l.turn.header.now l.turn.target.now l.counter l.track.following (g.O.Sink.held l.initial.output) (g.O.Sink.held l.output)
    × (g.O.Sink.write_faults l.output ≡ g.O.Sink.write_faults l.initial.output)
