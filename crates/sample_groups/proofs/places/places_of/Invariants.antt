use Rattle.std.proofs.Common.{drop}
use Rattle.sample_groups.proofs.Adding.{Gathers}
use Rattle.sample_groups.proofs.places.places_of.Given as goal

-- the places so far and those of the parts that are left are all of them
abbrev pub invariant-loop-part : goal.invariant-loop-part
invariant-loop-part l = Gathers l.parts l.places (drop l.part-index l.parts)
