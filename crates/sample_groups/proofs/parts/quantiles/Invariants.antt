use Rattle.std.proofs.Common.{◌≡◌, ◌++◌, drop, filter_map}
use Rattle.sample_groups.specs.Groups.{quantile_in}
use Rattle.sample_groups.proofs.parts.quantiles.Given as goal

-- those so far and those that are left are all of them
abbrev pub invariant-loop-part : goal.invariant-loop-part
invariant-loop-part l = l.quantiles.items ++ filter_map quantile_in (drop l.part-index l.parts) ≡ filter_map quantile_in l.parts
