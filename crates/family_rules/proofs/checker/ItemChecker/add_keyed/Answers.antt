use Rattle.std.proofs.Common.{◌∙◌, ap}
use Rattle.std.proofs.lemmas.Result.{IfOk-weaker}
use Rattle.family_rules.specs.LeastRule.{least}
use Rattle.family_rules.specs.Samples.{given_by}
use Rattle.family_rules.proofs.Taking.{if_ok_both}
use Rattle.family_rules.proofs.Sampled.{added_stop, added_more}
use Rattle.family_rules.proofs.checker.ItemChecker.add_keyed.Goals as goal

pub returns-clause-broken : goal.returns-clause-broken
returns-clause-broken c =
    IfOk-weaker c.add_key.result _ _ (λ answer stop.
    added_stop c.args.self.now c.enter.new.self c.add_told.new.self c.args.line.kind c.args.line.key c.args.line.told.now c.in_ok-back.back c.in_ok-told.told c.least-broken.result
    (c.least-broken.ensures ∙ ap (λ o. least o c.in_ok-told.told) c.rule_if.ensures) c.in_ok-back.ensures.rest c.in_ok-told.ensures.rest c.own_samples-own.result c.own_samples-own.ensures
    c.in_ok-back.ensures.back c.in_ok-told.ensures.broken answer stop) c.add_key.ensures.broken

pub returns-clause-added : goal.returns-clause-added
returns-clause-added c =
    if_ok_both _ _ _ c.add_key.result (λ answer stop step none.
    added_more c.args.self.now c.enter.new.self c.add_told.new.self c.args.line.kind c.args.line.key c.args.line.told.now c.in_ok-back.back c.in_ok-told.told c.least-broken.result
    (c.least-broken.ensures ∙ ap (λ o. least o c.in_ok-told.told) c.rule_if.ensures) (given_by c.args.line) c.in_ok-back.ensures.entered c.in_ok-told.ensures.added
    c.own_samples-own.result c.add_key.new.self c.args.line.value answer stop step none) c.add_key.ensures.broken c.add_key.ensures.added
