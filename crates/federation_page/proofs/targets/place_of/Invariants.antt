use Rattle.std.proofs.Common.{◌≡◌, ◌≤◌, ◌+◌, ◌-◌, length, drop, not}
use Rattle.std.specs.List.{prefix_len}
use Rattle.label_sets.specs.Labels.{name_before}
use Rattle.federation_page.proofs.targets.place_of.Given as goal

abbrev pub invariant-loop-place : goal.invariant-loop-place
invariant-loop-place l = (l.place ≤ length l.labels) × (prefix_len (λ label. not (name_before l.name label.name)) l.labels ≡ l.place + prefix_len (λ label. not (name_before l.name label.name)) (drop l.place l.labels))

abbrev pub decreases-loop-place : goal.decreases-loop-place
decreases-loop-place l = length l.labels - l.place
