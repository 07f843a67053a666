use Rattle.otlp_json.proofs.Lists.{member_if_some}
use Rattle.text_emitter.proofs.Laws.{emitted}
use Rattle.otlp_json.proofs.metrics.emit_text_member.Goals as goal

pub returns : goal.returns
returns g c = rw (member_if_some c.args.text.now c.args.key.now _ (cc)) (simp emitted (cc))
