use Rattle.std.proofs.Common.{◌≡◌, ◌++◌, map, take}
use Rattle.page_model.specs.declared.page.Reading.{Reading}
use Rattle.staleness.proofs.marks.push_keys.Given as goal

-- the keys of the readings passed stand behind the others
abbrev pub invariant-loop-reading : goal.invariant-loop-reading
invariant-loop-reading l = l.keys.items ≡ l.initial.keys.items ++ map (λ (r : Reading). r.key) (take l.reading-index l.readings)
