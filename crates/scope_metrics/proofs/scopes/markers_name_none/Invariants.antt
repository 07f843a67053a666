use Rattle.std.proofs.Common.{◌≡◌, drop}
use Rattle.scope_metrics.specs.Laws.{markers_name_none}
use Rattle.scope_metrics.proofs.scopes.markers_name_none.Given as goal

-- the markers passed name none
abbrev pub invariant-loop-marker : goal.invariant-loop-marker
invariant-loop-marker l = markers_name_none l.markers ≡ markers_name_none (drop l.marker-index l.markers)
