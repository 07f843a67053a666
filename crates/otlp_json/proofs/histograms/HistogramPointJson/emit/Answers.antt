use Rattle.std.proofs.Common.{Some}
use Rattle.otlp_json.specs.Texts.{observation_members, histogram_point_text}
use Rattle.otlp_json.proofs.Written.{point_written}
use Rattle.text_emitter.proofs.Laws.{emitted}
use Rattle.otlp_json.proofs.histograms.HistogramPointJson.emit.Goals as goal

pub returns : goal.returns
unfolding histogram_point_text
returns g c = let p = c.args.self.now in rw (point_written observation_members p.labels (Some p.start) p.time p.value p.exemplars) (simp emitted (cc))
