use Rattle.otlp_json.specs.Texts.{start_member}
use Rattle.text_emitter.proofs.Laws.{emitted}
use Rattle.otlp_json.proofs.points.emit_start.Goals as goal

pub returns-in-Some : goal.returns-in-Some
unfolding start_member
returns-in-Some g c = rw c.in-Some.is (simp emitted (cc))
