use Rattle.std.proofs.Common.{◌≡◌, take}
use Rattle.std.specs.List.{sum_by}
use Rattle.otlp_tree.specs.declared.tree.ResourceMetrics.{ResourceMetrics}
use Rattle.series_table.specs.Counting.{valued_in, unvalued_in, over_scopes, as_count}
use Rattle.series_table.proofs.point_counts.of_parts.Given as goal

-- the points of the parts so far
abbrev pub invariant-loop-part : goal.invariant-loop-part
invariant-loop-part l =
    (l.counts.valued ≡ as_count (sum_by (λ (part : ResourceMetrics). over_scopes valued_in part.scopes) (take l.part-index l.parts)))
    × (l.counts.unvalued ≡ as_count (sum_by (λ (part : ResourceMetrics). over_scopes unvalued_in part.scopes) (take l.part-index l.parts)))
