use Rattle.std.proofs.Common.{◌≡◌, ◌++◌, map, take}
use Rattle.family_metrics.proofs.metrics.push_markers.Given as goal

-- the points of the markers so far stand behind the others
abbrev pub invariant-loop-marker : goal.invariant-loop-marker
invariant-loop-marker g l = l.points.items ≡ l.initial.points.items ++ map g.F.PointForm.marked_by (take l.marker-index l.markers)
