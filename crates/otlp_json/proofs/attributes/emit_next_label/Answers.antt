use Rattle.otlp_json.specs.Pieces.{next_label}
use Rattle.text_emitter.proofs.Laws.{emitted}
use Rattle.otlp_json.proofs.attributes.emit_next_label.Goals as goal

pub returns : goal.returns
unfolding next_label
returns g c = simp emitted (cc)
