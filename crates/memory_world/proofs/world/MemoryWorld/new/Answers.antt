use Rattle.memory_world.proofs.WorldLaws.{fresh_right, listens_right}
use Rattle.memory_world.proofs.world.MemoryWorld.new.Goals as goal

pub new-requires-2 : goal.new-requires-2
new-requires-2 c = fresh_right c.args.pairs.items c.requires.right_pairs

pub invariant_of-result : goal.invariant_of-result
invariant_of-result c = listens_right c.args.doors.items c.requires.right_doors
