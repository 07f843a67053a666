use Rattle.std.proofs.Common.{◌≡◌, map, take}
use Rattle.std.specs.List.{flat_map}
use Rattle.page_model.specs.declared.page.Reading.{Reading}
use Rattle.page_model.specs.declared.page.Family.{Family}
use Rattle.staleness.proofs.marks.page_keys.Given as goal

-- the keys are those of the families passed
abbrev pub invariant-loop-family : goal.invariant-loop-family
invariant-loop-family l = l.keys.items ≡ map (λ (r : Reading). r.key) (flat_map (λ (f : Family). f.readings) (take l.family-index l.families))
