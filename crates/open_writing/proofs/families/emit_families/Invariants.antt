use Rattle.std.proofs.Common.{◌≡◌, fold, take}
use Rattle.std.specs.List.{flat_map}
use Rattle.open_writing.specs.Pieces.{family_text}
use Rattle.open_writing.proofs.families.emit_families.Given as goal

abbrev pub invariant-loop-family : goal.invariant-loop-family
invariant-loop-family g l = l.out ≡ fold g.E.Emitter.push l.initial.out (flat_map family_text (take l.family-index l.families))
