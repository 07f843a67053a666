use Rattle.std.proofs.Common.{◌∙◌, Some, ap}
use Rattle.label_sets.specs.Lists.{when_true}
use Rattle.page_model.specs.declared.rule.Rule.TheVariants as rules
use Rattle.family_rules.specs.LeastRule.{least}
use Rattle.family_rules.proofs.checker.ItemChecker.known_rule.Goals as goal

pub returns-clause-rule : goal.returns-clause-rule
returns-clause-rule c = c.least.ensures ∙ ap (λ o. least o (Some rules.Duplicate)) (c.rule_if.ensures ∙ ap (λ b. when_true b rules.Interleaved) c.in_ok-passed.ensures.passed)
