use Rattle.std.proofs.Common.{◌≡◌, drop}
use Rattle.std.specs.Vec.Iter.{into_iter_items}
use Rattle.family_rules.proofs.timed_values.pass_over.Given as goal

-- so many items were passed over
abbrev pub invariant-loop : goal.invariant-loop
invariant-loop g l = into_iter_items l.items ≡ drop l.counter (into_iter_items l.initial.items)
