use Rattle.std.proofs.Common.{◌≡◌, take}
use Rattle.std.specs.List.{sum_by}
use Rattle.open_writing.specs.Pieces.{family_lines}
use Rattle.open_writing.proofs.counting.lines_of_families.Given as goal

abbrev pub invariant-loop-family : goal.invariant-loop-family
invariant-loop-family l = l.lines ≡ sum_by family_lines (take l.family-index l.families)
