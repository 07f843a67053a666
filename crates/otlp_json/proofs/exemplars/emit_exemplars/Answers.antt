use Rattle.std.proofs.Common.{codes}
use Rattle.otlp_json.specs.Texts.{exemplars_member}
use Rattle.otlp_json.proofs.Lists.{member_if_more}
use Rattle.otlp_json.proofs.exemplars.emit_exemplars.Goals as goal

pub returns : goal.returns
unfolding exemplars_member
returns g c = rw (member_if_more c.args.shots.now (codes "exemplars") _ (cc)) c.emit_shots.ensures
