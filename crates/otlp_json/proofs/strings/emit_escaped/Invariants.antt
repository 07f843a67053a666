use Rattle.std.proofs.Common.{◌≡◌, fold, take}
use Rattle.std.specs.List.{flat_map}
use Rattle.otlp_json.specs.Json.{json_byte}
use Rattle.otlp_json.proofs.strings.emit_escaped.Given as goal

abbrev pub invariant-loop-b : goal.invariant-loop-b
invariant-loop-b g l = l.out ≡ fold g.E.Emitter.push l.initial.out (flat_map json_byte (take l.b-index l.text))
