-- Bytes are sent from the front on.
use Rattle.std.proofs.Common.{◌≤◌, ◌-◌, length, take, drop, arith, length-take, length-drop}
use Rattle.otlp_sender.proofs.WireSteps.{sent_step, broke_off}
use Rattle.otlp_sender.proofs.sending.send.Goals as goal

pub loop-at-preserved : goal.loop-at-preserved
loop-at-preserved g c =
    let bound : c.in-Ok.count ≤ length (take (length c.args.text.now - c.loop-at.at) (drop c.loop-at.at c.args.text.now)) = c.in-Ok.ensures.bound in
    record {
      within = omega (arith, bound, length-take (length c.args.text.now - c.loop-at.at) (drop c.loop-at.at c.args.text.now), length-drop c.loop-at.at c.args.text.now, c.loop-at.invariant.within);
      state = sent_step c.args.text.now c.loop-at.at c.in-Ok.count _ _ _ c.loop-at.invariant.within c.loop-at.invariant.state c.in-Ok.ensures.done bound;
    }

pub returns-in-Err-clause-failed : goal.returns-in-Err-clause-failed
returns-in-Err-clause-failed g c = broke_off c.args.text.now c.loop-at.at _ _ _ c.loop-at.invariant.state c.in-Err.ensures.failed c.in-Err.ensures.cause.later c.in-Err.ensures.cause.failed
