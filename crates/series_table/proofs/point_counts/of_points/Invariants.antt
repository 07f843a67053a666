use Rattle.std.proofs.Common.{◌≡◌, ◌≤◌, not, take}
use Rattle.std.specs.Prelude.{count_by}
use Rattle.series_table.proofs.point_counts.of_points.Given as goal

-- the points so far are counted
abbrev pub invariant-loop-point : goal.invariant-loop-point
invariant-loop-point g l =
    (l.valued ≡ count_by g.P.MayHaveValue.valued (take l.point-index l.points))
    × (l.unvalued ≡ count_by (λ p. not (g.P.MayHaveValue.valued p)) (take l.point-index l.points))
    × (l.valued ≤ l.point-index) × (l.unvalued ≤ l.point-index)
