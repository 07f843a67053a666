use Rattle.std.proofs.Common.{◌≡◌, drop}
use Rattle.label_sets.specs.Lists.{first_some}
use Rattle.sample_groups.specs.Groups.{created_in}
use Rattle.sample_groups.proofs.parts.first_created.Given as goal

-- none of the parts before has one
abbrev pub invariant-loop-part : goal.invariant-loop-part
invariant-loop-part l = first_some created_in l.parts ≡ first_some created_in (drop l.part-index l.parts)
