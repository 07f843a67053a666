use Rattle.std.proofs.Common.{◌≡◌, map, take}
use Rattle.std.specs.List.{flat_map}
use Rattle.page_model.specs.declared.page.Family.{Family}
use Rattle.target_core.specs.Events.{first_place}
use Rattle.target_core.proofs.places.first_places.Given as goal

-- what the readings of the families so far give
abbrev pub invariant-loop-family : goal.invariant-loop-family
invariant-loop-family l = l.places.items ≡ map (first_place l.honor l.moment) (flat_map (λ (f : Family). f.readings) (take l.family-index l.families))
