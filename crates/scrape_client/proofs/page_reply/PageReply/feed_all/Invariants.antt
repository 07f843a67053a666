-- The blocks in front of a place were read.
use Rattle.std.proofs.Common.{length, ◌-◌}
use Rattle.scrape_client.proofs.PageReading.{IsReadTo}
use Rattle.scrape_client.proofs.page_reply.PageReply.feed_all.Given as goal

abbrev pub invariant-loop-at : goal.invariant-loop-at
invariant-loop-at l = IsReadTo l.initial.self l.piece l.at l.self

abbrev pub decreases-loop-at : goal.decreases-loop-at
decreases-loop-at l = length l.piece - l.at
