use Rattle.otlp_json.specs.Texts.{resource_text}
use Rattle.text_emitter.proofs.Laws.{emitted}
use Rattle.otlp_json.proofs.metrics.ResourceMetricsJson.emit.Goals as goal

pub returns : goal.returns
unfolding resource_text
returns g c = simp emitted (cc)
