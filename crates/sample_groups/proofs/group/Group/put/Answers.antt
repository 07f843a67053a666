use Rattle.std.proofs.Common.{ap}
use Rattle.sample_groups.specs.Extras.{extra_in}
use Rattle.sample_groups.specs.Members.{member_behind}
use Rattle.sample_groups.proofs.Grown.{with_more, added_kept, knows_kept, knows_more}
use Rattle.sample_groups.proofs.group.Group.put.Goals as goal

pub add_member-requires : goal.add_member-requires
add_member-requires c = knows_kept (extra_in c.self.inside.extra) (extra_in c.take-extra.result) c.self.inside.parts c.as_slice.result.now
    (ap extra_in c.take-extra.ensures.value) c.as_slice.ensures c.self.invariant

pub invariant_of-self-2 : goal.invariant_of-self-2
invariant_of-self-2 c = knows_more (extra_in c.add_member.new.extra) c.self.inside.parts c.put.new.self c.args.member.now.part.now c.in_ok-put.ensures.ok
    (added_kept (extra_in c.self.inside.extra) (extra_in c.take-extra.result) (extra_in c.add_member.new.extra) c.self.inside.parts c.as_slice.result.now (member_behind c.args.member.now)
    (ap extra_in c.take-extra.ensures.value) c.as_slice.ensures c.in_ok-add_member.ensures).places

pub returns : goal.returns
returns c = with_more c.self.inside.parts c.put.new.self (extra_in c.self.inside.extra) (extra_in c.add_member.new.extra) (member_behind c.args.member.now) c.args.self.now c.in_ok-put.ensures.ok
    (added_kept (extra_in c.self.inside.extra) (extra_in c.take-extra.result) (extra_in c.add_member.new.extra) c.self.inside.parts c.as_slice.result.now (member_behind c.args.member.now)
    (ap extra_in c.take-extra.ensures.value) c.as_slice.ensures c.in_ok-add_member.ensures) c.self.view_is
