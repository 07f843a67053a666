use Rattle.std.proofs.Common.{◌≡◌, length}
use Rattle.family_rules.specs.KeyedValues.{passed_from, is_passed}
use Rattle.family_rules.proofs.keyed_values.is_passed.Given as goal

-- the answer for all samples is that for those that are left
abbrev pub invariant-loop-next : goal.invariant-loop-next
invariant-loop-next l = passed_from l.labels l.any l.last l.samples ≡ is_passed l.labels l.initial.samples

abbrev pub decreases-loop-next : goal.decreases-loop-next
decreases-loop-next l = length l.samples
