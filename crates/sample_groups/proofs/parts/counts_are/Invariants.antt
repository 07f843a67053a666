use Rattle.std.proofs.Common.{◌≡◌, ◌==◌, drop, filter_map}
use Rattle.std.specs.List.{list_all}
use Rattle.sample_groups.specs.Groups.{count_in}
use Rattle.sample_groups.proofs.parts.counts_are.Given as goal

-- the parts that are left decide
abbrev pub invariant-loop-part : goal.invariant-loop-part
invariant-loop-part l = list_all (λ n. n == l.count) (filter_map count_in l.parts) ≡ list_all (λ n. n == l.count) (filter_map count_in (drop l.part-index l.parts))
