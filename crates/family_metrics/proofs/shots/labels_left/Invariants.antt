use Rattle.std.proofs.Common.{◌≡◌, not, filter, take}
use Rattle.label_sets.specs.declared.label.Label.{Label}
use Rattle.family_metrics.specs.Shots.{is_id}
use Rattle.family_metrics.proofs.shots.labels_left.Given as goal

-- those of the labels passed that are no ids
abbrev pub invariant-loop-label : goal.invariant-loop-label
invariant-loop-label l = l.left.items ≡ filter (λ (x : Label). not (is_id x)) (take l.label-index l.labels)
