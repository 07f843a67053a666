use Rattle.otlp_json.specs.Texts.{metric_text}
use Rattle.otlp_json.proofs.Lists.{with_commas-last}
use Rattle.std.proofs.lemmas.List.Concat.{flat_map-append}
use Rattle.text_emitter.proofs.Laws.{emitted}
use Rattle.otlp_json.proofs.metrics.MetricJson.emit.Goals as goal

pub returns : goal.returns
unfolding metric_text
returns g c = simp (with_commas-last, flat_map-append, emitted) (cc)
