use Rattle.scope_metrics.proofs.OneScope.{one_scope_alone}
use Rattle.scope_metrics.proofs.scope_laws.one_scope_alone.Goals as goal

pub returns : goal.returns
returns c = one_scope_alone
