use Rattle.otlp_json.specs.Pieces.{open_label}
use Rattle.text_emitter.proofs.Laws.{emitted}
use Rattle.otlp_json.proofs.attributes.emit_label.Goals as goal

pub returns : goal.returns
unfolding open_label
returns g c = simp emitted (cc)
