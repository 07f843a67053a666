use Rattle.std.proofs.Common.{◌-◌, arith}
use Rattle.label_sets.proofs.Places.{at_read, belongs_first, belongs_behind, taken_at, below_more}
use Rattle.label_sets.proofs.sorting.place.Goals as goal

pub returns-in-Less : goal.returns-in-Less
returns-in-Less c = belongs_behind c.args.sorted.now c.args.name.now c.loop-at.at (c.loop-at.at - 1) c.index-sorted-at.result (omega arith) c.requires c.loop-at.invariant.0 c.index-sorted-at.is (at_read _ _ _ _ c.index-sorted-at.is c.in-Less.ensures) c.loop-at.invariant.1

pub returns-in-Equal : goal.returns-in-Equal
returns-in-Equal c = taken_at c.args.sorted.now c.args.name.now (c.loop-at.at - 1) c.index-sorted-at.result (omega arith) c.index-sorted-at.is (at_read _ _ _ _ c.index-sorted-at.is c.in-Equal.ensures)

pub loop-at-preserved : goal.loop-at-preserved
loop-at-preserved c = (omega arith, below_more c.args.sorted.now c.args.name.now c.loop-at.at (c.loop-at.at - 1) c.index-sorted-at.result (omega arith) c.loop-at.invariant.0 c.index-sorted-at.is (at_read _ _ _ _ c.index-sorted-at.is c.in-Greater.ensures) c.loop-at.invariant.1)

pub returns : goal.returns
returns c = belongs_first c.args.sorted.now c.args.name.now c.loop-at.at c.requires (omega arith) c.loop-at.invariant.1
