-- What was taken of the block was read.
use Rattle.std.proofs.Common.{length, ◌+◌, ◌-◌, ◌*◌}
use Rattle.http_talk.specs.Streams.{told_of_head, heads_to_tell}
use Rattle.scrape_client.proofs.PageReading.{IsReadTo}
use Rattle.scrape_client.proofs.page_reply.PageReply.feed.Given as goal

abbrev pub invariant-loop-taken : goal.invariant-loop-taken
invariant-loop-taken l = IsReadTo l.initial.self l.block l.at l.self

abbrev pub decreases-loop-taken : goal.decreases-loop-taken
decreases-loop-taken l = 2 * (length l.block - l.at) + heads_to_tell (told_of_head l.self.stream)
