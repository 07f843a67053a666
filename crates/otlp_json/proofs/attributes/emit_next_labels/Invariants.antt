use Rattle.std.proofs.Common.{◌≡◌, fold, take}
use Rattle.std.specs.List.{flat_map}
use Rattle.otlp_json.specs.Pieces.{next_label}
use Rattle.otlp_json.proofs.attributes.emit_next_labels.Given as goal

abbrev pub invariant-loop-label : goal.invariant-loop-label
invariant-loop-label g l = l.out ≡ fold g.E.Emitter.push l.initial.out (flat_map next_label (take l.label-index l.labels))
