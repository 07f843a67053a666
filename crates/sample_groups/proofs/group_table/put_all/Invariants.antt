use Rattle.std.proofs.Common.{◌≡◌, ◌+◌, ◌++◌, filter_map, drop, length}
use Rattle.std.specs.List.{zip}
use Rattle.std.specs.Vec.Iter.{into_iter_items}
use Rattle.sample_groups.specs.Groups.{reading_named}
use Rattle.sample_groups.proofs.group_table.put_all.Given as goal

-- the readings so far and those of the groups that are left are all of them
abbrev pub invariant-loop-group : goal.invariant-loop-group
invariant-loop-group l = record {
  readings : l.readings.items ++ filter_map (reading_named l.kind l.name l.unit) (zip (drop l.place l.sets) (into_iter_items l.group-iterator))
      ≡ l.initial.readings.items ++ filter_map (reading_named l.kind l.name l.unit) (zip l.sets (into_iter_items l.initial.group-iterator));
  many : l.place + length (into_iter_items l.group-iterator) ≡ length l.sets;
}
