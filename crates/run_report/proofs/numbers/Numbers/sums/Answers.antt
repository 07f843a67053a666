use Rattle.std.proofs.Common.{◌+◌, sym, subst, ◌∙◌, arith}
use Rattle.run_report.specs.Sums.{AreOfTargets}
use Rattle.run_report.proofs.Sums.{sums_next, of_more}
use Rattle.run_report.proofs.numbers.Numbers.sums.Goals as goal

pub loop-end-preserved : goal.loop-end-preserved
loop-end-preserved c =
    let at = c.loop-end.end-index in
    let one = c.of.result in (
      c.and-sums.ensures ∙ sums_next c.args.ends.now at c.end-item.result c.loop-end.sums one (omega (arith, c.loop-end-test.true)) c.end-item.is c.loop-end.invariant.0 c.of.ensures.are,
      subst (AreOfTargets (at + 1)) (sym c.and-sums.ensures) (of_more at c.loop-end.sums one c.loop-end.invariant.1 c.of.ensures.one),
    )
