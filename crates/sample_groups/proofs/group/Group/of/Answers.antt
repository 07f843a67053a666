use Rattle.std.proofs.Common.{◌∙◌, ap}
use Rattle.sample_groups.specs.Groups.{with_one}
use Rattle.sample_groups.specs.Members.{member_behind}
use Rattle.sample_groups.proofs.group.Group.of.Goals as goal

pub returns : goal.returns
returns c = c.in_ok-put.ensures ∙ ap (λ g. with_one g (member_behind c.args.member.now)) c.new-group.ensures
