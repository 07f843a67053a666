use Rattle.otlp_json.proofs.Written.{scope_written}
use Rattle.text_emitter.proofs.Laws.{emitted}
use Rattle.otlp_json.proofs.metrics.ScopeMetricsJson.emit.Goals as goal

pub returns : goal.returns
returns g c = rw (scope_written c.args.self.now) (simp emitted (cc))
