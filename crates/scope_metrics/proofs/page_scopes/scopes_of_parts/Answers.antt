use Rattle.std.specs.Vec.Iter.{into_iter_items}
use Rattle.scope_metrics.proofs.ScopedMetrics.{next_part}
use Rattle.scope_metrics.proofs.page_scopes.scopes_of_parts.Goals as goal

pub loop-part-preserved : goal.loop-part-preserved
loop-part-preserved c = λ place all.
    let have = c.loop-part.invariant place all in
    next_part place (into_iter_items c.loop-part.part-iterator) (into_iter_items c.next.new.self) c.in-Some.part c.loop-part.scopes.items c.push_part.new.scopes.items _
    c.in-Some.ensures.steps.0 have.0 (c.in_ok-push_part.ensures place) have.1
