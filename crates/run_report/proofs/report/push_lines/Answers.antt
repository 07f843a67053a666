use Rattle.std.proofs.Common.{◌+◌, ◌∙◌, arith}
use Rattle.run_report.proofs.Sums.{lines_next}
use Rattle.run_report.proofs.report.push_lines.Goals as goal

pub loop-end-preserved : goal.loop-end-preserved
loop-end-preserved c =
    let at = c.loop-end.end-index in (
      omega (arith, c.loop-end.invariant.0),
      c.in_ok-push_line.ensures ∙ lines_next c.args.ends.now at (c.loop-end.number + 1) c.end-item.result c.args.text.now.items c.loop-end.text.items (omega (arith, c.loop-end-test.true)) c.end-item.is (omega (arith, c.loop-end.invariant.0)) c.loop-end.invariant.1,
    )
