use Rattle.std.proofs.Common.{◌≡◌, ◌∙◌, map, refl, ap, is_some, sym, subst, true, false}
use Rattle.label_sets.specs.Lists.{when_true}
use Rattle.page_model.specs.declared.rule.Rule.TheVariants as rules
use Rattle.packed_keys.specs.declared.sample_key.SampleKey.{SampleKey}
use Rattle.sample_groups.specs.LastSeen.{EndsWith}
use Rattle.sample_groups.specs.Members.{member_behind}
use Rattle.label_sets.specs.declared.kind.Kind.TheVariants.{Counter}
use Rattle.label_sets.specs.declared.label_set.LabelSet.{LabelSet}
use Rattle.family_rules.specs.declared.timed_values.TimedValue.{TimedValue}
use Rattle.family_rules.specs.KeyedValues.{is_key_of}
use Rattle.family_rules.specs.GroupKeys.{IsNewGroup, NameTells}
use Rattle.family_rules.specs.Samples.{is_back_in_groups, with_part_at}
use Rattle.family_rules.specs.LeastRule.{least}
use Rattle.family_rules.proofs.Joined.{least_none}
use Rattle.family_rules.proofs.Taking.{is_no_rule}
use Rattle.family_rules.proofs.NewGroups.{first_stop, group_new, key_seen, key_last, name_tells, first_none, first_added}
use Rattle.family_rules.proofs.checker.ItemChecker.add_first.Goals as goal

pub returns-then-is_some-clause-broken : goal.returns-then-is_some-clause-broken
returns-then-is_some-clause-broken c =
    let kept = c.in_ok-broken.ensures.rest (sym c.is_some.ensures ∙ c.if-is_some.true) in
    let back = c.in_ok-back.ensures.back ∙ (λ i. is_back_in_groups (kept i).setting.format Counter (c.in_ok-copy-2.ensures i) (kept i).current) in
    c.least.ensures ∙ (λ i. least ((c.rule_if.ensures ∙ ap (λ b. when_true b rules.Interleaved) back) i) (c.in_ok-broken.ensures.broken i))
    ∙ first_stop c.args.self.now c.args.key (member_behind c.args.member.now) (is_back_in_groups c.args.self.now.setting.format Counter c.args.key.labels c.args.self.now.current) c.requires refl

pub returns-then-is_some-clause-added : goal.returns-then-is_some-clause-added
returns-then-is_some-clause-added c = λ none.
    let broken = (least_none c.rule_if.result c.in_ok-broken.broken (sym c.least.ensures ∙ none)).1 in
    absurd (let f : true ≡ false = sym c.if-is_some.true ∙ c.is_some.ensures ∙ ap is_some broken in cc)

pub begin_group-requires-clause-new : goal.begin_group-requires-clause-new
begin_group-requires-clause-new c =
    let none = is_no_rule c.in_ok-broken.broken (sym c.is_some.ensures ∙ c.if-is_some.false) in
    subst (λ (labels : LabelSet). IsNewGroup c.add_key.new.self.current labels) (sym c.in_ok-copy-2.ensures)
    (group_new c.args.self.now c.add_key.new.self c.args.key c.args.value (member_behind c.args.member.now) c.requires (sym none ∙ c.in_ok-broken.ensures.broken) (c.in_ok-broken.ensures.added none))

pub begin_group-requires-clause-seen : goal.begin_group-requires-clause-seen
begin_group-requires-clause-seen c =
    let none = is_no_rule c.in_ok-broken.broken (sym c.is_some.ensures ∙ c.if-is_some.false) in
    (λ i. is_key_of (record { name = c.in_ok-copy.ensures i; labels = c.in_ok-copy-2.ensures i }) c.add_key.new.self.seen)
    ∙ key_seen c.args.self.now c.add_key.new.self c.args.key c.args.value (member_behind c.args.member.now) c.requires (sym none ∙ c.in_ok-broken.ensures.broken) (c.in_ok-broken.ensures.added none)

pub begin_group-requires-clause-last : goal.begin_group-requires-clause-last
begin_group-requires-clause-last c =
    let none = is_no_rule c.in_ok-broken.broken (sym c.is_some.ensures ∙ c.if-is_some.false) in
    subst (λ (labels : LabelSet). EndsWith (map (λ (e : SampleKey × TimedValue). e.0) c.add_key.new.self.seen) labels) (sym c.in_ok-copy-2.ensures)
    (key_last c.args.self.now c.add_key.new.self c.args.key c.args.value (member_behind c.args.member.now) c.requires (sym none ∙ c.in_ok-broken.ensures.broken) (c.in_ok-broken.ensures.added none))

pub begin_group-requires-clause-tells : goal.begin_group-requires-clause-tells
begin_group-requires-clause-tells c =
    let none = is_no_rule c.in_ok-broken.broken (sym c.is_some.ensures ∙ c.if-is_some.false) in
    subst (λ name. NameTells name c.add_key.new.self.current c.add_key.new.self.seen) (sym c.in_ok-copy.ensures)
    (name_tells c.args.self.now c.add_key.new.self c.args.key c.args.value (member_behind c.args.member.now) c.requires (sym none ∙ c.in_ok-broken.ensures.broken) (c.in_ok-broken.ensures.added none))

pub returns-clause-broken : goal.returns-clause-broken
returns-clause-broken c =
    let none = is_no_rule c.in_ok-broken.broken (sym c.is_some.ensures ∙ c.if-is_some.false) in
    first_none c.args.self.now c.add_key.new.self c.args.key c.args.value (member_behind c.args.member.now) c.requires (sym none ∙ c.in_ok-broken.ensures.broken) (c.in_ok-broken.ensures.added none)

pub returns-clause-added : goal.returns-clause-added
returns-clause-added c = λ _.
    let none = is_no_rule c.in_ok-broken.broken (sym c.is_some.ensures ∙ c.if-is_some.false) in
    first_added c.args.self.now c.add_key.new.self c.args.key c.args.value (member_behind c.args.member.now) c.requires (sym none ∙ c.in_ok-broken.ensures.broken) (c.in_ok-broken.ensures.added none) c.begin_group.new.self
    (c.in_ok-begin_group.ensures ∙ (λ i. with_part_at c.add_key.new.self Counter (c.in_ok-copy-2.ensures i) (member_behind c.args.member.now)))
