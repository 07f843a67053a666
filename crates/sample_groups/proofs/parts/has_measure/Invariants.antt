use Rattle.std.proofs.Common.{◌≡◌, drop}
use Rattle.std.specs.List.{list_any}
use Rattle.sample_groups.specs.Groups.{is_measure}
use Rattle.sample_groups.proofs.parts.has_measure.Given as goal

-- the parts that are left decide
abbrev pub invariant-loop-part : goal.invariant-loop-part
invariant-loop-part l = list_any is_measure l.parts ≡ list_any is_measure (drop l.part-index l.parts)
