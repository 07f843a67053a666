use Rattle.std.proofs.Common.{◌≡◌, ◌++◌, length}
use Rattle.family_rules.specs.Made.{families_at}
use Rattle.family_rules.proofs.pages.put_families.Given as goal

-- the families so far and those that are left are all of them
abbrev pub invariant-loop-next : goal.invariant-loop-next
invariant-loop-next l = l.families.items ++ families_at l.format l.known l.samples ≡ l.initial.families.items ++ families_at l.format l.initial.known l.initial.samples

abbrev pub decreases-loop-next : goal.decreases-loop-next
decreases-loop-next l = length l.known
