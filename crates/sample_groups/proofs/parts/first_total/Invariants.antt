use Rattle.std.proofs.Common.{◌≡◌, drop}
use Rattle.label_sets.specs.Lists.{first_some}
use Rattle.sample_groups.specs.Groups.{total_in}
use Rattle.sample_groups.proofs.parts.first_total.Given as goal

-- none of the parts before has one
abbrev pub invariant-loop-part : goal.invariant-loop-part
invariant-loop-part l = first_some total_in l.parts ≡ first_some total_in (drop l.part-index l.parts)
