use Rattle.std.proofs.Common.{◌≡◌, ◌++◌}
use Rattle.std.specs.Vec.Iter.{into_iter_items}
use Rattle.federation_page.proofs.conflicts.families_of.Given as goal

-- the families so far, and the candidates that are left, are all
abbrev pub invariant-loop-candidate : goal.invariant-loop-candidate
invariant-loop-candidate l = l.families.items ++ into_iter_items l.candidate-iterator ≡ into_iter_items l.initial.candidate-iterator
