use Rattle.otlp_json.specs.Texts.{number_members, number_point_text}
use Rattle.otlp_json.proofs.Written.{point_written}
use Rattle.text_emitter.proofs.Laws.{emitted}
use Rattle.otlp_json.proofs.points.NumberPointJson.emit.Goals as goal

pub returns : goal.returns
unfolding number_point_text
returns g c = let p = c.args.self.now in rw (point_written number_members p.labels p.start p.time p.value p.exemplars) (simp emitted (cc))
