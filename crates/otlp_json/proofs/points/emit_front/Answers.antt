use Rattle.otlp_json.specs.Pieces.{point_front}
use Rattle.text_emitter.proofs.Laws.{emitted}
use Rattle.otlp_json.proofs.points.emit_front.Goals as goal

pub returns : goal.returns
unfolding point_front
returns g c = simp emitted (cc)
