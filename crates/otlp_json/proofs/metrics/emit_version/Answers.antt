use Rattle.std.proofs.Common.{codes}
use Rattle.otlp_json.proofs.Lists.{member_if_more}
use Rattle.text_emitter.proofs.Laws.{emitted}
use Rattle.otlp_json.proofs.metrics.emit_version.Goals as goal

pub returns : goal.returns
returns g c = rw (member_if_more c.args.version.now (codes "version") _ (cc)) (simp emitted (cc))
