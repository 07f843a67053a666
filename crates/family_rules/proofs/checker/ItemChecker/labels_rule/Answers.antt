use Rattle.std.proofs.Common.{◌∙◌, ◌||◌, Some, ap}
use Rattle.label_sets.specs.Lists.{when_true}
use Rattle.page_model.specs.declared.rule.Rule.TheVariants as rules
use Rattle.family_rules.specs.Checking.{Checking}
use Rattle.family_rules.specs.KeyedValues.{is_passed, samples_at_end}
use Rattle.family_rules.specs.LeastRule.{least}
use Rattle.family_rules.specs.Steps.{with_current}
use Rattle.family_rules.specs.Samples.{own_samples, is_back, is_back_in_groups}
use Rattle.family_rules.proofs.checker.ItemChecker.labels_rule.Goals as goal

pub returns : goal.returns
returns c =
    let kind = c.current_kind-kind.ensures in
    let mid = c.in_ok-entered.ensures.rest in
    let after = c.in_ok-grouped.ensures.rest ∙ ap (λ (m : Checking). with_current m c.goes_back.new.self.current) mid in
    let own = c.own_samples-own.ensures ∙ ap (own_samples c.args.self.now) kind in
    let entered = c.in_ok-entered.ensures.back ∙ ap (λ k. is_back c.args.self.now k c.args.labels.now) kind in
    let grouped = c.in_ok-grouped.ensures.back ∙ (λ i. is_back_in_groups (mid i).setting.format (kind i) c.args.labels.now (mid i).current) in
    let passed = c.in_ok-passed.ensures.passed ∙ (λ i. is_passed c.args.labels.now (samples_at_end (own i) (after i).seen)) in
    c.name_or_back.ensures ∙ (λ i. least (when_true (entered i || grouped i || passed i) rules.Interleaved) (Some rules.Suffix))
