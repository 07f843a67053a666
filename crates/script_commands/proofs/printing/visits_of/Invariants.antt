use Rattle.std.proofs.Common.{◌≡◌, map, take}
use Rattle.script_commands.specs.Rounds.{visits_counted}
use Rattle.script_commands.proofs.printing.visits_of.Given as goal

-- the visits of the targets so far
abbrev pub invariant-loop-end : goal.invariant-loop-end
invariant-loop-end l = l.visits.items ≡ map visits_counted (take l.end-index l.ends)
