use Rattle.std.proofs.Common.{◌≡◌, List, [], map, take, drop, Option}
use Rattle.page_model.specs.declared.page.Reading.{Reading}
use Rattle.start_times.specs.declared.row.Placed.{Placed}
use Rattle.family_metrics.specs.declared.markers.Marker.{Marker}
use Rattle.family_metrics.specs.MarkerGroups.{marker_groups}
use Rattle.family_metrics.specs.PlacedMarkers.{family_readings}
use Rattle.family_metrics.proofs.FamilyMetrics.{ArePassed}
use Rattle.family_metrics.proofs.families.page_metrics.Given as goal

-- some families were passed
abbrev pub invariant-loop-family : goal.invariant-loop-family
invariant-loop-family l = (place : Reading → Option Placed) (ms : List Marker) → l.fn.places ≡ map place (family_readings l.families) → l.initial.groups ≡ marker_groups [] ms
    → ArePassed place ms (take l.family-index l.families) (drop l.family-index l.families) l.metrics.items l.left l.groups
