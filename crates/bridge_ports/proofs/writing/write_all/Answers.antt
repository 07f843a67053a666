use Rattle.std.proofs.Common.{arith, length-take, length-drop, ◌∙◌}
use Rattle.bridge_ports.proofs.KnownLaws.{at_error, front_written, more_written, some_written}
use Rattle.bridge_ports.proofs.writing.write_all.Goals as goal

pub returns-in_err-count-clause-front : goal.returns-in_err-count-clause-front
returns-in_err-count-clause-front g c = at_error _ _ (front_written _ _ _ c.loop-at.at c.args.text.now (omega arith) c.loop-at.invariant.1 c.in_err-count.ensures.bytes)

pub loop-at-preserved : goal.loop-at-preserved
loop-at-preserved g c = (
  omega (arith, simp (length-take, length-drop) at c.in_ok-count.ensures.bound),
  more_written _ _ _ c.loop-at.at c.in_ok-count.count c.args.text.now c.loop-at.invariant.1 c.in_ok-count.ensures.bytes,
  c.in_ok-count.ensures.cause.kept ∙ c.loop-at.invariant.2,
  λ none. absurd (some_written c.loop-at.at c.in_ok-count.count c.args.text.now (omega arith) c.in_ok-count.ensures.progress none),
)
