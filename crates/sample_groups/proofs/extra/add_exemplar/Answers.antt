use Rattle.std.proofs.Common.{◌∙◌, ap, sym}
use Rattle.std.proofs.lemmas.Result.{on_ok_weaker}
use Rattle.sample_groups.specs.Groups.{exemplar_in}
use Rattle.sample_groups.specs.ExtraValues.{with_exemplar}
use Rattle.sample_groups.specs.Extras.{extra_in}
use Rattle.sample_groups.specs.Members.{member_behind}
use Rattle.sample_groups.proofs.Grown.{no_exemplar}
use Rattle.sample_groups.proofs.extra.add_exemplar.Goals as goal

pub returns-in-Some : goal.returns-in-Some
returns-in-Some c = on_ok_weaker c.put_exemplar.result (λ put. put ∙ ap (with_exemplar (extra_in c.args.extra.now)) (sym c.in-Some.is ∙ c.in_ok-exemplar.ensures)) c.put_exemplar.ensures

pub returns-in-None : goal.returns-in-None
returns-in-None c = no_exemplar (extra_in c.args.extra.now) (exemplar_in (member_behind c.args.member.now)) (sym c.in_ok-exemplar.ensures ∙ c.in-None.is)
