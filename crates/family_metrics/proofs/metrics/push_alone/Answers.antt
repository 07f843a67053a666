use Rattle.std.proofs.Common.{◌∙◌, ap, sym, [], ◌∷◌, ◌++◌, append_assoc}
use Rattle.std.specs.List.{filter_map}
use Rattle.std.proofs.Common.{take}
use Rattle.family_metrics.specs.MarkerGroups.{alone_metric}
use Rattle.family_metrics.proofs.Placing.{placed_at, passed_at}
use Rattle.family_metrics.proofs.metrics.push_alone.Goals.{in-Some+in_ok-push, in_default}
use Rattle.family_metrics.proofs.metrics.push_alone.Goals as goal

pub loop-group-preserved : goal.loop-group-preserved
loop-group-preserved c = elim c.match-branch-2.branch [
  | in-Some+in_ok-push w ↦ ap (λ v. v.items) w.metrics-is ∙ w.in_ok-push.ensures.items ∙ ap (λ ms. ms ++ w.in-Some.metric ∷ []) c.loop-group.invariant
      ∙ append_assoc c.args.metrics.now.items (filter_map alone_metric (take c.loop-group.group-index c.args.groups.now)) (w.in-Some.metric ∷ [])
      ∙ ap (λ ms. c.args.metrics.now.items ++ ms) (sym (placed_at alone_metric c.args.groups.now c.loop-group.group-index c.group-item.result w.in-Some.metric
      c.loop-group-test.true c.group-item.is (sym c.in_ok-metric.ensures ∙ w.in-Some.is)))
  | in_default w ↦ ap (λ v. v.items) w.metrics-is ∙ c.loop-group.invariant
      ∙ ap (λ ms. c.args.metrics.now.items ++ ms) (sym (passed_at alone_metric c.args.groups.now c.loop-group.group-index c.group-item.result
      c.loop-group-test.true c.group-item.is (sym c.in_ok-metric.ensures ∙ w.in_default.is)))
]
