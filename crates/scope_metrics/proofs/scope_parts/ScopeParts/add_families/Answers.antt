use Rattle.scope_metrics.proofs.PageItems.{families_step}
use Rattle.scope_metrics.proofs.scope_parts.ScopeParts.add_families.Goals as goal

pub loop-number-preserved : goal.loop-number-preserved
loop-number-preserved c = λ none place own.
    families_step place c.args.families.now c.loop-number.number c.index-families-number.result c.loop-number.self c.add_family.new.self c.loop-number.left.now c.next_places.result.0.now
    c.next_places.result.1.now c.len.result c.loop-number-test.true c.index-families-number.is (c.loop-number.invariant none place own) c.len.ensures c.next_places.ensures.own c.next_places.ensures.rest
    c.in_ok-add_family.ensures
