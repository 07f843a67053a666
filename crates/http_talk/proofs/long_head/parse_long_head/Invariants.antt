use Rattle.std.proofs.Common.{length}
use Rattle.http_talk.specs.LongHeads.{IsBehindLines}
use Rattle.http_talk.proofs.long_head.parse_long_head.Given as goal

abbrev pub invariant-lines : goal.invariant-lines
invariant-lines l = IsBehindLines l.bytes l.rest

abbrev pub decreases-lines : goal.decreases-lines
decreases-lines l = length l.rest
