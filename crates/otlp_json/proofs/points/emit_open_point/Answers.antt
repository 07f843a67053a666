use Rattle.otlp_json.specs.Pieces.{open_point}
use Rattle.text_emitter.proofs.Laws.{emitted}
use Rattle.otlp_json.proofs.points.emit_open_point.Goals as goal

pub returns : goal.returns
unfolding open_point
returns g c = simp emitted (cc)
