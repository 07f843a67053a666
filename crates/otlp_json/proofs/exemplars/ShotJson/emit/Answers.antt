use Rattle.otlp_json.proofs.Written.{shot_written}
use Rattle.text_emitter.proofs.Laws.{emitted}
use Rattle.otlp_json.proofs.exemplars.ShotJson.emit.Goals as goal

pub returns : goal.returns
returns g c = rw (shot_written c.args.self.now) (simp emitted (cc))
