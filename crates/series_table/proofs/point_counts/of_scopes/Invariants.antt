use Rattle.std.proofs.Common.{◌≡◌, take}
use Rattle.series_table.specs.Counting.{valued_in, unvalued_in, over_scopes, as_count}
use Rattle.series_table.proofs.point_counts.of_scopes.Given as goal

-- the points of the scopes so far
abbrev pub invariant-loop-scope : goal.invariant-loop-scope
invariant-loop-scope l =
    (l.counts.valued ≡ as_count (over_scopes valued_in (take l.scope-index l.scopes)))
    × (l.counts.unvalued ≡ as_count (over_scopes unvalued_in (take l.scope-index l.scopes)))
