use Rattle.std.proofs.Common.{◌≡◌, List, [], ◌++◌}
use Rattle.std.specs.Vec.Iter.{into_iter_items}
use Rattle.family_metrics.specs.declared.markers.Marker.{Marker}
use Rattle.family_metrics.specs.MarkerGroups.{marker_groups}
use Rattle.family_metrics.proofs.markers.MarkerGroups.of.Given as goal

-- the markers so far, which are by their metrics, and those that are left are all
abbrev pub invariant-loop-marker : goal.invariant-loop-marker
invariant-loop-marker l = (done : List Marker) × (l.groups ≡ marker_groups [] done) × (done ++ into_iter_items l.marker-iterator ≡ into_iter_items l.initial.marker-iterator)
