use Rattle.std.proofs.lemmas.Result.{on_ok_weaker}
use Rattle.sample_groups.specs.Extras.{extra_in}
use Rattle.sample_groups.specs.Members.{member_behind}
use Rattle.sample_groups.proofs.Grown.{all_added}
use Rattle.sample_groups.proofs.extra.add_member.Goals as goal

pub returns : goal.returns
returns c = on_ok_weaker c.add_exemplar.result
    (all_added (extra_in c.args.extra.now) (extra_in c.add_place.new.extra) (extra_in c.add_time.new.extra) (extra_in c.add_exemplar.new.extra) c.args.parts.now (member_behind c.args.member.now)
    c.in_ok-add_place.ensures c.in_ok-add_time.ensures) c.add_exemplar.ensures
