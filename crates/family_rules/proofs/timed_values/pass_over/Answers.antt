use Rattle.family_rules.proofs.Loops.{passed_one}
use Rattle.family_rules.proofs.timed_values.pass_over.Goals as goal

pub loop-preserved : goal.loop-preserved
loop-preserved g c = passed_one c.loop.items c.next-item.new.self c.next-item.result c.loop.counter _ c.next-item.ensures.cases c.loop.invariant
