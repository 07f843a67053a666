-- Bytes are written from the front on.
use Rattle.std.proofs.Common.{◌≤◌, ◌-◌, length, take, drop, arith, length-take, length-drop}
use Rattle.page_server.proofs.ConnSteps.{more_written, cut_off_at}
use Rattle.page_server.proofs.reply.say_all.Goals as goal

pub loop-at-preserved : goal.loop-at-preserved
loop-at-preserved g c =
    let bound : c.in-Ok.count ≤ length (take (length c.args.text.now - c.loop-at.at) (drop c.loop-at.at c.args.text.now)) = c.in-Ok.ensures.bound in
    record {
      within = omega (arith, bound, length-take (length c.args.text.now - c.loop-at.at) (drop c.loop-at.at c.args.text.now), length-drop c.loop-at.at c.args.text.now, c.loop-at.invariant.within);
      written = more_written c.args.text.now c.loop-at.at c.in-Ok.count _ _ _ c.loop-at.invariant.within bound c.loop-at.invariant.written c.in-Ok.ensures.said;
    }

pub returns-in-Err-clause-front : goal.returns-in-Err-clause-front
returns-in-Err-clause-front g c = cut_off_at _ c.args.text.now _ c.loop-at.at _ _ _ c.loop-at.invariant.written c.in-Err.ensures.said
