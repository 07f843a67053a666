use Rattle.std.proofs.Common.{◌≡◌, drop, filter_map}
use Rattle.sample_groups.specs.Groups.{quantile_in}
use Rattle.sample_groups.specs.Places.{has_place}
use Rattle.sample_groups.proofs.parts.has_place.Given as goal

-- the parts that are left decide
abbrev pub invariant-loop-part : goal.invariant-loop-part
invariant-loop-part l = has_place (filter_map quantile_in l.parts) l.at ≡ has_place (filter_map quantile_in (drop l.part-index l.parts)) l.at
