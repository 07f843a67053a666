use Rattle.std.proofs.Common.{◌∙◌, Some, ap, sym}
use Rattle.label_sets.specs.Lists.{when_true}
use Rattle.page_model.specs.declared.rule.Rule.TheVariants as rules
use Rattle.family_rules.specs.LeastRule.{least}
use Rattle.family_rules.proofs.Joined.{least_some}
use Rattle.family_rules.proofs.checker.ItemChecker.told_rule.Goals as goal

pub returns-clause-broken : goal.returns-clause-broken
returns-clause-broken c = c.least.ensures ∙ ap (λ o. least o (Some c.args.rule)) (c.rule_if.ensures ∙ ap (λ b. when_true b rules.Interleaved) c.in_ok-back.ensures.back)

pub returns-clause-never : goal.returns-clause-never
returns-clause-never c = λ none. absurd (least_some c.rule_if.result c.args.rule (sym c.least.ensures ∙ none))
