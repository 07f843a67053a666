use Rattle.std.proofs.Common.{arith}
use Rattle.load_pages.proofs.LoadLaws.{target_more}
use Rattle.load_pages.proofs.scripts.load_targets.Goals as goal

pub loop-made-preserved : goal.loop-made-preserved
loop-made-preserved c = (
  omega (arith, c.loop-made-test.true),
  omega (arith, c.push_reserved.ensures.len, c.loop-made.invariant.1),
  omega (arith, c.push_reserved.ensures.capacity, c.loop-made.invariant.2),
  target_more c.args.number c.args.rounds c.loop-made.made _ _ _ c.loop-made.invariant.3 c.push_reserved.ensures.items c.in_ok-target.ensures,
)
