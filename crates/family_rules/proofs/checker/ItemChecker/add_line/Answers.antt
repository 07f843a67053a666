use Rattle.std.proofs.Common.{◌∙◌, sym}
use Rattle.std.proofs.lemmas.Result.{IfOk-weaker}
use Rattle.family_rules.specs.Samples.{key_stop, with_key, with_member}
use Rattle.family_rules.proofs.checker.ItemChecker.add_line.Goals as goal

pub returns-in-Some-clause-broken : goal.returns-in-Some-clause-broken
returns-in-Some-clause-broken c =
    let kind = (c.tells_groups.ensures c.if-not-tells_groups.false).0 in
    IfOk-weaker c.add_first.result _ _ (λ answer stop. stop ∙ (λ i. key_stop c.args.self.now (sym kind i) c.args.line.key (sym c.in-Some.ensures i))) c.add_first.ensures.broken

pub returns-in-Some-clause-added : goal.returns-in-Some-clause-added
returns-in-Some-clause-added c =
    let kind = (c.tells_groups.ensures c.if-not-tells_groups.false).0 in
    IfOk-weaker c.add_first.result _ _ (λ answer step none. step none
    ∙ (λ i. with_key c.args.self.now (sym kind i) c.args.line.key c.args.line.value (with_member c.args.line.value.time c.args.line.exemplar.now (sym c.in-Some.ensures i)))) c.add_first.ensures.added
