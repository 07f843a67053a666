use Rattle.std.proofs.Common.{◌≡◌, not, List, sym, subst, ◌∙◌}
use Rattle.std.specs.Prelude.{IfOk}
use Rattle.label_sets.specs.declared.label.Label.{Label}
use Rattle.label_sets.specs.Sets.{IsLabelSet}
use Rattle.family_metrics.specs.Shots.{is_id}
use Rattle.family_metrics.proofs.Ids.{all_left, left_is_set}
use Rattle.family_metrics.proofs.shots.attributes.Goals as goal

pub returns-then-not-has_id : goal.returns-then-not-has_id
returns-then-not-has_id c = subst (λ (ls : List Label). IfOk c.copy.result (λ left. left ≡ ls)) (sym (all_left is_id c.args.labels.now (sym c.has_id.ensures ∙ c.if-not-has_id.true))) c.copy.ensures

pub from_sorted-requires : goal.from_sorted-requires
from_sorted-requires c = subst IsLabelSet (sym c.in_ok-left.ensures) (left_is_set (λ (l : Label). not (is_id l)) c.labels.result.now (subst IsLabelSet (sym c.labels.ensures) c.in_order.ensures))
