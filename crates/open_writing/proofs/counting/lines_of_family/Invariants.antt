use Rattle.std.proofs.Common.{◌≡◌, take}
use Rattle.std.specs.List.{sum_by}
use Rattle.open_writing.specs.Pieces.{reading_lines}
use Rattle.open_writing.proofs.counting.lines_of_family.Given as goal

abbrev pub invariant-loop-reading : goal.invariant-loop-reading
invariant-loop-reading l = l.lines ≡ sum_by reading_lines (take l.reading-index l.readings)
