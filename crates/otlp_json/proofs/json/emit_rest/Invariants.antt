use Rattle.std.proofs.Common.{◌≡◌, fold, take}
use Rattle.std.specs.List.{flat_map}
use Rattle.otlp_json.specs.Pieces.{next_text}
use Rattle.otlp_json.proofs.json.emit_rest.Given as goal

abbrev pub invariant-loop-item : goal.invariant-loop-item
invariant-loop-item g l = l.out ≡ fold g.E.Emitter.push l.initial.out (flat_map (next_text g.T.Json.text) (take l.item-index l.items))
