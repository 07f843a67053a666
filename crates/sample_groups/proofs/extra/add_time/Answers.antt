use Rattle.std.proofs.Common.{◌∙◌, sym}
use Rattle.std.proofs.lemmas.Result.{on_ok_weaker}
use Rattle.sample_groups.specs.Extras.{extra_in}
use Rattle.sample_groups.specs.Members.{member_behind}
use Rattle.sample_groups.proofs.Grown.{time_same, time_comes}
use Rattle.sample_groups.proofs.extra.add_time.Goals as goal

pub returns-then-not-is_first : goal.returns-then-not-is_first
returns-then-not-is_first c = time_same (extra_in c.args.extra.now) c.args.parts.now (member_behind c.args.member.now) (sym c.is_first.ensures ∙ c.if-not-is_first.true)

pub returns : goal.returns
returns c = on_ok_weaker c.put_time.result
    (time_comes (extra_in c.args.extra.now) (extra_in c.put_time.new.extra) c.args.parts.now (member_behind c.args.member.now) (sym c.is_first.ensures ∙ c.if-not-is_first.false)) c.put_time.ensures
