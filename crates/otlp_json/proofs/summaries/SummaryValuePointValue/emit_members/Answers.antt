use Rattle.otlp_json.specs.Texts.{quantile_members}
use Rattle.text_emitter.proofs.Laws.{emitted}
use Rattle.otlp_json.proofs.summaries.SummaryValuePointValue.emit_members.Goals as goal

pub returns : goal.returns
unfolding quantile_members
returns g c = simp emitted (cc)
