use Rattle.scope_metrics.proofs.OneScope.{one_scope_of_marker, one_scope_of_reading}
use Rattle.scope_metrics.proofs.scope_laws.each_has_one_scope.Goals as goal

pub returns-clause-marker : goal.returns-clause-marker
returns-clause-marker c = one_scope_of_marker

pub returns-clause-reading : goal.returns-clause-reading
returns-clause-reading c = one_scope_of_reading
