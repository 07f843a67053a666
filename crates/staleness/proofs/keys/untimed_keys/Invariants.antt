use Rattle.std.proofs.Common.{◌≡◌, take}
use Rattle.std.specs.List.{flat_map}
use Rattle.packed_keys.specs.Partings.{keys_behind}
use Rattle.page_model.specs.declared.page.Family.{Family}
use Rattle.staleness.specs.Vanished.{untimed_keys}
use Rattle.staleness.proofs.keys.untimed_keys.Given as goal

-- the keys are those of the families passed
abbrev pub invariant-loop-family : goal.invariant-loop-family
invariant-loop-family l = keys_behind l.keys.items ≡ untimed_keys l.fn.honor (flat_map (λ (f : Family). f.readings) (take l.family-index l.family-items))
