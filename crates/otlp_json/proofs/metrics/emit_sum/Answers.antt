use Rattle.otlp_json.specs.Texts.{sum_member}
use Rattle.text_emitter.proofs.Laws.{emitted}
use Rattle.otlp_json.proofs.metrics.emit_sum.Goals as goal

pub returns : goal.returns
unfolding sum_member
returns g c = simp emitted (cc)
