use Rattle.std.proofs.Common.{◌≡◌, ◌-◌, ◌≤◌}
use Rattle.load_pages.specs.GeneratedScripts.{generated_targets}
use Rattle.load_pages.proofs.scripts.load_targets.Given as goal

-- the targets so far
abbrev pub invariant-loop-made : goal.invariant-loop-made
invariant-loop-made l = (l.made ≤ l.targets) × (l.all.len ≡ l.made) × (l.targets ≤ l.all.cap) × (l.all.items ≡ generated_targets l.number l.rounds l.made)

abbrev pub decreases-loop-made : goal.decreases-loop-made
decreases-loop-made l = l.targets - l.made
