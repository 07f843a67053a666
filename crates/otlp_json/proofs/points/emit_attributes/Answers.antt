use Rattle.std.proofs.Common.{codes}
use Rattle.otlp_json.specs.Texts.{attributes_member}
use Rattle.otlp_json.proofs.Lists.{member_if_some}
use Rattle.text_emitter.proofs.Laws.{emitted}
use Rattle.otlp_json.proofs.points.emit_attributes.Goals as goal

pub returns : goal.returns
unfolding attributes_member
returns g c = rw (member_if_some c.args.labels.now (codes "attributes") _ (cc)) (simp emitted (cc))
