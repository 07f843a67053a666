use Rattle.std.proofs.Common.{◌≡◌, fold, take}
use Rattle.std.specs.List.{flat_map}
use Rattle.open_writing.specs.Writing.{escaped_char}
use Rattle.open_writing.proofs.strings.emit_marked.Given as goal

abbrev pub invariant-loop-b : goal.invariant-loop-b
invariant-loop-b g l = l.out ≡ fold g.E.Emitter.push l.initial.out (flat_map escaped_char (take l.b-index l.text))
