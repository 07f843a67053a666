use Rattle.std.proofs.Common.{◌∙◌, ap, subst, sym}
use Rattle.family_rules.specs.KeyedValues.{is_key_of}
use Rattle.family_rules.specs.GroupKeys.{NameTells}
use Rattle.family_rules.specs.Checking.{Checking}
use Rattle.sample_groups.specs.Members.{member_behind}
use Rattle.family_rules.proofs.NewGroups.{begun_tells}
use Rattle.family_rules.proofs.checker.ItemChecker.begin_group.Goals as goal

pub invariant_of-self-2 : goal.invariant_of-self-2
invariant_of-self-2 c = begun_tells c.args.key (member_behind c.args.member.now) c.self.inside.current c.begin_in.new.current c.self.inside.seen
    (ap (λ (v : Checking). is_key_of c.args.key v.seen) c.self.view_is ∙ c.requires.seen)
    (subst (λ (v : Checking). NameTells c.args.key.name v.current v.seen) (sym c.self.view_is) c.requires.tells) c.in_ok-begin_in.ensures
