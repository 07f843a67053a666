use Rattle.std.proofs.Common.{◌∙◌, ◌&&◌, not, ap, sym}
use Rattle.label_sets.specs.Lists.{when_true}
use Rattle.page_model.specs.declared.rule.Rule.TheVariants as rules
use Rattle.page_model.specs.Rules.{is_open_metrics}
use Rattle.family_rules.specs.LeastRule.{least}
use Rattle.family_rules.proofs.Joined.{least_none, none_told, fitting}
use Rattle.family_rules.proofs.checker.ItemChecker.add_part.Goals as goal

pub returns-clause-broken : goal.returns-clause-broken
returns-clause-broken c =
    let back = c.overtaken_rule-back.ensures ∙ (λ i. when_true (is_open_metrics (c.in_ok-added.ensures.rest i).setting.format && c.in_ok-added.ensures.overtaken i) rules.Interleaved) in
    let order = c.rule_if-order.ensures ∙ ap (λ b. when_true (not b) rules.Order) c.in_ok-added.ensures.answer in
    c.least.ensures ∙ (λ i. least (back i) (order i))

pub returns-clause-added : goal.returns-clause-added
returns-clause-added c = λ none.
    let order = (least_none c.overtaken_rule-back.result c.rule_if-order.result (sym c.least.ensures ∙ none)).1 in
    c.in_ok-added.ensures.added (fitting c.in_ok-added.added.fits (none_told (not c.in_ok-added.added.fits) rules.Order (sym c.rule_if-order.ensures ∙ order)))
