use Rattle.std.proofs.Common.{◌≡◌, drop, find}
use Rattle.std.specs.List.{flat_map}
use Rattle.page_model.specs.declared.page.Family.{Family}
use Rattle.target_pages.specs.Stretches.{is_info}
use Rattle.target_pages.proofs.description.info_of.Given as goal

-- the families that are left decide
abbrev pub invariant-loop-family : goal.invariant-loop-family
invariant-loop-family l = find is_info (flat_map (λ (f : Family). f.readings) l.family-items) ≡ find is_info (flat_map (λ (f : Family). f.readings) (drop l.family-index l.family-items))
