use Rattle.std.proofs.Common.{◌≡◌, IfOk, subst}
use Rattle.label_sets.specs.declared.label_set.LabelSet.{LabelSet}
use Rattle.family_rules.specs.Samples.{labels_stop}
use Rattle.family_rules.proofs.checker.ItemChecker.name_rule.Goals as goal

pub returns : goal.returns
returns c = subst (λ (labels : LabelSet). IfOk c.labels_rule-rule.result (λ rule. rule ≡ labels_stop c.args.self.now labels)) c.in_ok-labels.ensures c.labels_rule-rule.ensures
