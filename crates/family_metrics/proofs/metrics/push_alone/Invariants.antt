use Rattle.std.proofs.Common.{◌≡◌, ◌++◌, filter_map, take}
use Rattle.family_metrics.specs.MarkerGroups.{alone_metric}
use Rattle.family_metrics.proofs.metrics.push_alone.Given as goal

-- the metrics of the groups passed stand behind the others
abbrev pub invariant-loop-group : goal.invariant-loop-group
invariant-loop-group l = l.metrics.items ≡ l.initial.metrics.items ++ filter_map alone_metric (take l.group-index l.groups)
