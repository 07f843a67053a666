use Rattle.std.proofs.Common.{◌∙◌, ap, sym, [], ◌++◌}
use Rattle.std.specs.List.{cons_option}
use Rattle.std.proofs.lemmas.List.{append-nil, take_all}
use Rattle.family_metrics.proofs.FamilyMetrics.{page_step, all_passed}
use Rattle.family_metrics.proofs.families.page_metrics.Goals.{in-Some+in_ok-push, in_default}
use Rattle.family_metrics.proofs.families.page_metrics.Goals as goal

pub loop-family-preserved : goal.loop-family-preserved
loop-family-preserved c = λ place ms own is.
    page_step place ms c.args.families.now c.loop-family.family-index c.family-item.result c.loop-family.metrics.items c.match-branch-3.metrics.items c.loop-family.left.now
    c.next_places.result.0.now c.match-branch-3.left.now c.loop-family.groups c.placed_metric.new.groups c.in_ok-metric.field-0 c.len.result
    c.loop-family-test.true c.family-item.is (c.loop-family.invariant place ms own is) c.len.ensures c.next_places.ensures.own
    (c.in_ok-metric.ensures place ms)
    (elim c.match-branch-3.branch [
      | in-Some+in_ok-push w ↦ ap (λ v. v.items) w.metrics-is ∙ w.in_ok-push.ensures.items ∙ ap (λ o. c.loop-family.metrics.items ++ cons_option o []) (sym w.in-Some.is)
      | in_default w ↦ ap (λ v. v.items) w.metrics-is ∙ sym (append-nil c.loop-family.metrics.items) ∙ ap (λ o. c.loop-family.metrics.items ++ cons_option o []) (sym w.in_default.is)
    ])
    (elim c.match-branch-3.branch [
      | in-Some+in_ok-push w ↦ ap (λ b. b.now) w.left-is ∙ c.next_places.ensures.rest
      | in_default w ↦ ap (λ b. b.now) w.left-is ∙ c.next_places.ensures.rest
    ])

pub returns : goal.returns
returns c = λ place ms own is.
    all_passed place ms c.args.families.now c.loop-family.family-index c.loop-family.metrics.items c.loop-family.left.now c.loop-family.groups
    (take_all c.loop-family.family-index c.args.families.now c.loop-family-test.false) (c.loop-family.invariant place ms own is)
