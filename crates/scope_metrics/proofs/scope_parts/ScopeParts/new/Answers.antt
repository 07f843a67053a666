use Rattle.scope_metrics.proofs.ScopeItems.{none_of_them}
use Rattle.scope_metrics.proofs.scope_parts.ScopeParts.new.Goals as goal

pub returns : goal.returns
returns c = none_of_them c.empty.result c.new-2.result.items c.place_for-2.new.self c.in_ok-place_for.field-0 c.empty.ensures c.new-2.ensures.items c.in_ok-place_for.ensures
