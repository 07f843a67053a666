use Rattle.std.proofs.Common.{◌≡◌, take}
use Rattle.std.specs.List.{flat_map}
use Rattle.page_model.specs.declared.page.Family.{Family}
use Rattle.target_pages.specs.SeriesPages.{marks_where}
use Rattle.target_pages.proofs.marks.page_marks.Given as goal

-- the marks of the families passed
abbrev pub invariant-loop-family : goal.invariant-loop-family
invariant-loop-family l = l.marks.items ≡ marks_where l.honor (flat_map (λ (f : Family). f.readings) (take l.family-index l.family-items))
