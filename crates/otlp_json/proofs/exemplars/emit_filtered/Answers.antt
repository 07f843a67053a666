use Rattle.std.proofs.Common.{codes}
use Rattle.otlp_json.specs.Texts.{filtered_member}
use Rattle.otlp_json.proofs.Lists.{member_if_some}
use Rattle.text_emitter.proofs.Laws.{emitted}
use Rattle.otlp_json.proofs.exemplars.emit_filtered.Goals as goal

pub returns : goal.returns
unfolding filtered_member
returns g c = rw (member_if_some c.args.labels.now (codes "filteredAttributes") _ (cc)) (simp emitted (cc))
