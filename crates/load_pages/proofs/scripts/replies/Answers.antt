use Rattle.std.proofs.Common.{arith}
use Rattle.load_pages.proofs.LoadLaws.{reply_more}
use Rattle.load_pages.proofs.scripts.replies.Goals as goal

pub reply-requires : goal.reply-requires
reply-requires c = record { small = c.requires.number; few_targets = c.requires.target; few_rounds = omega (arith, c.loop-round-test.true, c.requires.rounds) }

pub loop-round-preserved : goal.loop-round-preserved
loop-round-preserved c = (
  omega (arith, c.loop-round-test.true),
  omega (arith, c.push_reserved.ensures.len, c.loop-round.invariant.1),
  omega (arith, c.push_reserved.ensures.capacity, c.loop-round.invariant.2),
  reply_more c.args.number c.args.target c.loop-round.round _ _ _ c.loop-round.invariant.3 c.push_reserved.ensures.items c.in_ok-reply.ensures,
)
