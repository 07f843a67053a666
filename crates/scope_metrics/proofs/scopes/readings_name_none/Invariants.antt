use Rattle.std.proofs.Common.{◌≡◌, drop}
use Rattle.scope_metrics.specs.Laws.{readings_name_none}
use Rattle.scope_metrics.proofs.scopes.readings_name_none.Given as goal

-- the readings passed name none
abbrev pub invariant-loop-reading : goal.invariant-loop-reading
invariant-loop-reading l = readings_name_none l.readings ≡ readings_name_none (drop l.reading-index l.readings)
