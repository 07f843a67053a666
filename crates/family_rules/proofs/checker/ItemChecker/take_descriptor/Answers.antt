use Rattle.std.proofs.Common.{◌≡◌, ◌∙◌, None, ap, sym}
use Rattle.family_rules.specs.Steps.{unit_stop, with_descriptor}
use Rattle.family_rules.proofs.Taking.{is_no_rule, place_refused, unit_refused, descriptor_taken}
use Rattle.family_rules.proofs.checker.ItemChecker.take_descriptor.Goals as goal

pub returns-then-is_some : goal.returns-then-is_some
returns-then-is_some c = place_refused c.args.self.now c.args.family c.args.descriptor c.args.self.now c.place_rule-broken.result (sym c.is_some.ensures ∙ c.if-is_some.true) c.place_rule-broken.ensures

pub returns-then-is_some-2 : goal.returns-then-is_some-2
returns-then-is_some-2 c =
    let free : c.place_rule-broken.result ≡ None = is_no_rule c.place_rule-broken.result (sym c.is_some.ensures ∙ c.if-is_some.false) in
    unit_refused c.args.self.now c.args.family c.args.descriptor c.reach.new.self (sym free ∙ c.place_rule-broken.ensures) c.unit_rule-broken.result (sym c.is_some-2.ensures ∙ c.if-is_some-2.true)
    (c.unit_rule-broken.ensures ∙ ap (λ k. unit_stop k.current c.args.descriptor) c.in_ok-reach.ensures)

pub returns : goal.returns
returns c =
    let free : c.place_rule-broken.result ≡ None = is_no_rule c.place_rule-broken.result (sym c.is_some.ensures ∙ c.if-is_some.false) in
    let right : c.unit_rule-broken.result ≡ None = is_no_rule c.unit_rule-broken.result (sym c.is_some-2.ensures ∙ c.if-is_some-2.false) in
    descriptor_taken c.args.self.now c.args.family c.args.descriptor c.describe.new.self (sym free ∙ c.place_rule-broken.ensures)
    (sym right ∙ c.unit_rule-broken.ensures ∙ ap (λ k. unit_stop k.current c.args.descriptor) c.in_ok-reach.ensures)
    (c.in_ok-describe.ensures ∙ ap (λ k. with_descriptor k c.args.descriptor) c.in_ok-reach.ensures)
