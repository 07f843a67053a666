use Rattle.std.proofs.Common.{◌≡◌, ◌++◌, take}
use Rattle.series_select.proofs.selecting.put_all.Given as goal

-- the readings passed stand behind those that were there
abbrev pub invariant-loop-reading : goal.invariant-loop-reading
invariant-loop-reading l = l.kept.items ≡ l.initial.kept.items ++ take l.reading-index l.readings
