use Rattle.std.proofs.Common.{◌∙◌, ◌+◌, ◌≤◌, ◌<◌, ◌++◌, ◌∷◌, [], ap, cond, is_some, sym, subst}
use Rattle.family_rules.specs.Checking.{Checking}
use Rattle.family_rules.specs.KeyedValues.{is_key_of}
use Rattle.family_rules.specs.LeastRule.{least}
use Rattle.family_rules.specs.Samples.{known_stop}
use Rattle.family_rules.proofs.Joined.{known_never}
use Rattle.family_rules.proofs.Taking.{stop_seen, stop_broken, stop_many, stop_none, some_is, put_new, sample_added}
use Rattle.family_rules.proofs.checker.ItemChecker.add_key.Goals as goal

pub returns-in-Some-clause-broken : goal.returns-in-Some-clause-broken
returns-in-Some-clause-broken c =
    let key = some_is c.in_ok-known.known c.in-Some.known c.args.key c.in-Some.is c.in_ok-known.ensures.key in
    let seen = c.in_ok-known.ensures.samples ∙ ap (λ b. cond b c.self.inside.seen (c.self.inside.seen ++ (c.args.key, c.args.value) ∷ [])) (ap is_some c.in-Some.is) ∙ ap (λ (v : Checking). v.seen) c.self.view_is in
    c.least.ensures ∙ stop_seen c.args.self.now c.args.own c.args.key c.args.broken
    (ap (λ (v : Checking). is_key_of c.args.key v.seen) (sym c.self.view_is) ∙ sym c.in_ok-known.ensures.known ∙ ap is_some c.in-Some.is)
    c.in_ok-rule.rule (c.in_ok-rule.ensures.rule ∙ (λ i. known_stop c.args.own (key i).labels (seen i)))

pub returns-in-Some-clause-added : goal.returns-in-Some-clause-added
returns-in-Some-clause-added c = λ none.
    absurd (known_never c.args.own c.in-Some.known.labels c.insert.new.self c.args.broken (ap (λ o. least o c.args.broken) (sym c.in_ok-rule.ensures.rule) ∙ sym c.least.ensures ∙ none))

pub returns-then-is_some-clause-broken : goal.returns-then-is_some-clause-broken
returns-then-is_some-clause-broken c = stop_broken c.args.self.now c.args.own c.args.key c.args.broken
    (ap (λ (v : Checking). is_key_of c.args.key v.seen) (sym c.self.view_is) ∙ sym c.in_ok-known.ensures.known ∙ ap is_some c.in_default.is)
    (sym c.is_some.ensures ∙ c.if-is_some.true)

pub returns-then-self-clause-broken : goal.returns-then-self-clause-broken
returns-then-self-clause-broken c = stop_many c.args.self.now c.args.own c.args.key c.args.broken
    (ap (λ (v : Checking). is_key_of c.args.key v.seen) (sym c.self.view_is) ∙ sym c.in_ok-known.ensures.known ∙ ap is_some c.in_default.is)
    (sym c.is_some.ensures ∙ c.if-is_some.false)
    (subst (λ (v : Checking). v.setting.limit ≤ v.samples) c.self.view_is c.if-self.true)

pub returns-clause-broken : goal.returns-clause-broken
returns-clause-broken c = stop_none c.args.self.now c.args.own c.args.key c.args.broken
    (ap (λ (v : Checking). is_key_of c.args.key v.seen) (sym c.self.view_is) ∙ sym c.in_ok-known.ensures.known ∙ ap is_some c.in_default.is)
    (sym c.is_some.ensures ∙ c.if-is_some.false)
    (subst (λ (v : Checking). v.samples < v.setting.limit) c.self.view_is c.if-self.false)

pub returns-clause-added : goal.returns-clause-added
returns-clause-added c = λ none.
    let seen = c.in_ok-known.ensures.samples ∙ put_new c.self.inside.seen (c.args.key, c.args.value) (is_some c.in_ok-known.known) (ap is_some c.in_default.is)
    ∙ ap (λ (v : Checking). v.seen ++ (c.args.key, c.args.value) ∷ []) c.self.view_is in
    sample_added c.args.self.now _ c.count_sample.new.self c.args.key c.args.value c.insert.new.self (λ i. record {
      setting = (c.self.view_is i).setting;
      left = (c.self.view_is i).left;
      current = (c.self.view_is i).current;
      runs = (c.self.view_is i).runs;
      seen = c.insert.new.self;
      samples = (c.self.view_is i).samples + 1;
      ended = (c.self.view_is i).ended;
      stopped = (c.self.view_is i).stopped;
    }) seen c.in_ok-count_sample.ensures
