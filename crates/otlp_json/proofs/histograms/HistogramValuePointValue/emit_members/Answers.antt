use Rattle.otlp_json.specs.Texts.{observation_members}
use Rattle.std.proofs.lemmas.List.Concat.{flat_map-append}
use Rattle.text_emitter.proofs.Laws.{emitted}
use Rattle.otlp_json.proofs.histograms.HistogramValuePointValue.emit_members.Goals as goal

pub returns : goal.returns
unfolding observation_members
returns g c = simp (flat_map-append, emitted) (cc)
