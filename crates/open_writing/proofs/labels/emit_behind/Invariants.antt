use Rattle.std.proofs.Common.{◌≡◌, fold, take}
use Rattle.std.specs.List.{flat_map}
use Rattle.open_writing.specs.Pieces.{next_unclosed}
use Rattle.open_writing.proofs.labels.emit_behind.Given as goal

abbrev pub invariant-loop-label : goal.invariant-loop-label
invariant-loop-label g l = l.out ≡ fold g.E.Emitter.push l.initial.out (flat_map next_unclosed (take l.label-index l.labels))
