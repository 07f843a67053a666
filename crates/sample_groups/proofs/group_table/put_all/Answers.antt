use Rattle.std.specs.Vec.Iter.{into_iter_items}
use Rattle.sample_groups.proofs.Placing.{one_reading}
use Rattle.sample_groups.proofs.BesideLaws.{fewer_left}
use Rattle.sample_groups.proofs.group_table.put_all.Goals as goal

pub loop-group-preserved : goal.loop-group-preserved
loop-group-preserved c = record {
  readings = one_reading c.args.kind c.args.name.now c.args.unit.now c.args.sets.now c.loop-group.place c.in_ok-labels.labels c.in-Some.group (into_iter_items c.loop-group.group-iterator) (into_iter_items c.next.new.self)
      c.loop-group.readings.items c.put_reading.new.readings.items _ c.in_ok-labels.ensures c.in-Some.ensures.steps.0 c.in_ok-put_reading.ensures c.loop-group.invariant.readings;
  many = fewer_left c.loop-group.place (into_iter_items c.loop-group.group-iterator) (into_iter_items c.next.new.self) c.in-Some.group c.args.sets.now c.in-Some.ensures.steps.0 c.loop-group.invariant.many;
}
