use Rattle.std.proofs.Common.{◌≡◌, ◌+◌}
use Rattle.script_commands.proofs.visiting.give_up.Given as goal

abbrev pub invariant-loop : goal.invariant-loop
invariant-loop l = l.left.len + l.counter ≡ l.fn.tracks.len
