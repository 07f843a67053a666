-- One block more.
use Rattle.std.proofs.Common.{arith}
use Rattle.http_talk.proofs.Gathering.{gathers_block, block_badly}
use Rattle.http_talk.proofs.reply.gather_all.Goals as goal

pub loop-at-preserved : goal.loop-at-preserved
loop-at-preserved c =
    gathers_block c.args.stream.now c.args.body.now.items c.args.piece.now c.loop-at.at 1073741824 c.loop-at.stream c.gather.new.stream c.loop-at.body.items c.gather.new.body.items c.loop-at.invariant (omega (arith, c.loop-at-test.true))
    c.in-Ok.field-0 c.gather.ensures.same (λ fed f. c.in-Ok.ensures.answer fed f)

pub returns-in-Err-clause-answer : goal.returns-in-Err-clause-answer
returns-in-Err-clause-answer c =
    block_badly c.args.stream.now c.args.body.now.items c.args.piece.now c.loop-at.at 1073741824 c.loop-at.stream c.gather.new.stream c.loop-at.body.items c.loop-at.body.items c.loop-at.invariant (omega (arith, c.loop-at-test.true))
    c.in-Err.fault (λ fed f. c.in-Err.ensures.answer fed f)
