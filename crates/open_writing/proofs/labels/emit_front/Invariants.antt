use Rattle.std.proofs.Common.{◌≡◌, fold, take}
use Rattle.std.specs.List.{flat_map}
use Rattle.open_writing.specs.Pieces.{label_then_comma}
use Rattle.open_writing.proofs.labels.emit_front.Given as goal

abbrev pub invariant-loop-label : goal.invariant-loop-label
invariant-loop-label g l = l.out ≡ fold g.E.Emitter.push l.initial.out (flat_map label_then_comma (take l.label-index l.labels))
