use Rattle.otlp_json.specs.Texts.{id_member}
use Rattle.text_emitter.proofs.Laws.{emitted}
use Rattle.otlp_json.proofs.exemplars.emit_trace.Goals as goal

pub returns-in-Some : goal.returns-in-Some
unfolding id_member
returns-in-Some g c = rw c.in-Some.is (simp emitted (cc))
