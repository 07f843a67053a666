use Rattle.std.proofs.Common.{◌≡◌, take}
use Rattle.std.specs.List.{list_any}
use Rattle.open_writing.specs.Pieces.{is_marked}
use Rattle.open_writing.proofs.strings.piece_has_marks.Given as goal

abbrev pub invariant-loop-b : goal.invariant-loop-b
invariant-loop-b l = l.any ≡ list_any is_marked (take l.b-index l.piece)
