use Rattle.scope_metrics.proofs.Unnamed.{all_may}
use Rattle.scope_metrics.proofs.page_scopes.push_part.Goals as goal

pub event_metrics-metrics-requires-clause-scope : goal.event_metrics-metrics-requires-clause-scope
event_metrics-metrics-requires-clause-scope c = all_may c.as_slice.result.now
