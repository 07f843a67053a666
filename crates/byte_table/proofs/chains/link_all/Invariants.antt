use Rattle.std.proofs.Common.{length, map}
use Rattle.byte_table.specs.Hashes.{hash_of}
use Rattle.byte_table.specs.Links.{AreLinked}
use Rattle.byte_table.proofs.chains.link_all.Given as goal

abbrev pub invariant-loop-at : goal.invariant-loop-at
invariant-loop-at l = AreLinked (length l.heads) (map hash_of l.strings) l.nexts l.heads l.at
