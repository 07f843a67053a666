use Rattle.std.proofs.Common.{◌∙◌, sym}
use Rattle.std.proofs.lemmas.Result.{IfOk-weaker}
use Rattle.family_rules.specs.Steps.{Takes, TakesAny}
use Rattle.family_rules.proofs.Taking.{any_ended, any_open}
use Rattle.family_rules.proofs.checker.ItemChecker.take.Goals as goal

pub returns-then-has_ended : goal.returns-then-has_ended
returns-then-has_ended c = any_ended c.args.self.now c.args.item c.args.self.now (sym c.has_ended.ensures ∙ c.if-has_ended.true)

pub returns : goal.returns
returns c = IfOk-weaker c.take_more.result (Takes c.args.item c.args.self.now c.take_more.new.self) (TakesAny c.args.item c.args.self.now c.take_more.new.self)
    (λ broken takes. any_open c.args.self.now c.args.item c.take_more.new.self broken (sym c.has_ended.ensures ∙ c.if-has_ended.false) takes) c.take_more.ensures
