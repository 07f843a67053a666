-- One block more.
use Rattle.std.proofs.Common.{refl, take, drop, length, ◌-◌, arith}
use Rattle.scrape_client.proofs.PageReading.{reads_block, block_refused, reads_last, still_read}
use Rattle.scrape_client.proofs.page_reply.PageReply.feed_all.Goals as goal

pub feed-requires-clause-reads : goal.feed-requires-clause-reads
feed-requires-clause-reads c = still_read c.args.self.now c.args.piece.now c.loop-at.at c.loop-at.self c.loop-at.invariant c.requires

pub loop-at-preserved : goal.loop-at-preserved
loop-at-preserved c =
    reads_block c.args.self.now c.args.piece.now c.loop-at.at 1073741824 c.loop-at.self c.feed.new.self c.loop-at.invariant (omega (arith, c.loop-at-test.true))
    c.in-Ok.field-0 c.feed.ensures.same (λ limit fed f. c.in-Ok.ensures.answer limit fed f)

pub returns-in-Err-clause-answer : goal.returns-in-Err-clause-answer
returns-in-Err-clause-answer c =
    block_refused c.args.self.now c.args.piece.now c.loop-at.at 1073741824 c.loop-at.self c.feed.new.self c.loop-at.invariant (omega (arith, c.loop-at-test.true))
    c.in-Err.fault (λ limit fed f. c.in-Err.ensures.answer limit fed f)

pub feed-requires-2-clause-reads : goal.feed-requires-2-clause-reads
feed-requires-2-clause-reads c = still_read c.args.self.now c.args.piece.now c.loop-at.at c.loop-at.self c.loop-at.invariant c.requires

pub returns-clause-answer : goal.returns-clause-answer
returns-clause-answer c =
    let piece = c.args.piece.now in
    let at = c.loop-at.at in
    reads_last c.args.self.now piece (take (length piece - at) (drop at piece)) at c.loop-at.self c.feed-2.new.self c.loop-at.invariant refl c.feed-2.result (λ limit fed f. c.feed-2.ensures.answer limit fed f)
