use Rattle.std.proofs.Common.{◌≡◌, fold, take}
use Rattle.std.specs.List.{flat_map}
use Rattle.open_writing.specs.Pieces.{samples_text}
use Rattle.open_writing.specs.Writing.{reading_samples}
use Rattle.open_writing.proofs.families.emit_readings.Given as goal

abbrev pub invariant-loop-reading : goal.invariant-loop-reading
invariant-loop-reading g l = l.out ≡ fold g.E.Emitter.push l.initial.out (flat_map (λ r. samples_text (reading_samples l.kind l.family r)) (take l.reading-index l.readings))
