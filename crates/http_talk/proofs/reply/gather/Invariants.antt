-- What was fed so far is what was taken of the block.
use Rattle.std.proofs.Common.{length, ◌+◌, ◌-◌, ◌*◌}
use Rattle.http_talk.specs.Streams.{told_of_head, heads_to_tell}
use Rattle.http_talk.proofs.Gathering.{Gathered}
use Rattle.http_talk.proofs.reply.gather.Given as goal

abbrev pub invariant-loop-taken : goal.invariant-loop-taken
invariant-loop-taken l = Gathered l.initial.stream l.initial.body.items l.block l.at l.stream l.body.items

abbrev pub decreases-loop-taken : goal.decreases-loop-taken
decreases-loop-taken l = 2 * (length l.block - l.at) + heads_to_tell (told_of_head l.stream)
