use Rattle.std.proofs.Common.{refl, ◌∙◌, ap}
use Rattle.program_words.specs.Statuses.{code_of}
use Rattle.bridge_cli.proofs.PrintLaws.{print_done, print_at_once, print_cut, print_report_cut, cut_fault}
use Rattle.bridge_cli.proofs.program.print.Goals as goal

pub returns-in-Whole-clause-ended : goal.returns-in-Whole-clause-ended
returns-in-Whole-clause-ended g c =
    print_at_once _ _ _ _ _ _ c.as_slice.result.now c.write_all.result c.in-Whole.is c.as_slice.ensures.value c.as_slice.ensures.value c.write_all.ensures.whole c.write_all.ensures.front c.end_code.ensures.whole c.end_code.ensures.front

pub returns-in-Tree-clause-ended : goal.returns-in-Tree-clause-ended
returns-in-Tree-clause-ended g c =
    print_at_once _ _ _ _ _ _ _ c.print_line.result c.in-Tree.is refl refl c.print_line.ensures.whole c.print_line.ensures.front c.end_code-in-Tree.ensures.whole c.end_code-in-Tree.ensures.front

pub returns-in-Ok-clause-ended : goal.returns-in-Ok-clause-ended
returns-in-Ok-clause-ended g c =
    let next = c.in-Ok.ensures.printed in print_done _ _ _ _ _ _ next.0 c.in-Bodies.is next.1 next.2 c.code.ensures

pub returns-in-Err-clause-ended : goal.returns-in-Err-clause-ended
returns-in-Err-clause-ended g c =
    print_cut _ _ c.in-Bodies.script c.in-Bodies.scrapers c.in-Bodies.page _ _ _ c.in-Err.cut c.in-Bodies.is c.in-Err.ensures.printed (c.code-in-Err.ensures ∙ ap code_of c.status.ensures)

pub returns-in-Err-clause-faults : goal.returns-in-Err-clause-faults
returns-in-Err-clause-faults g c = cut_fault _ _ _ c.in-Err.cut c.in-Err.ensures.cause (c.code-in-Err.ensures ∙ ap code_of c.status.ensures)

pub returns-in-Ok-print_report-clause-ended : goal.returns-in-Ok-print_report-clause-ended
returns-in-Ok-print_report-clause-ended g c =
    let next = c.in-Ok-print_report.ensures.printed in print_done _ _ _ _ _ _ next.0 c.in-Report.is next.1 next.2 c.code-in-Ok-print_report.ensures

pub returns-in-Err-print_report-clause-ended : goal.returns-in-Err-print_report-clause-ended
returns-in-Err-print_report-clause-ended g c =
    print_report_cut _ _ c.in-Report.script _ _ _ c.in-Err-print_report.cut c.in-Report.is c.in-Err-print_report.ensures.printed (c.code-in-Err-print_report.ensures ∙ ap code_of c.status-in-Err-print_report.ensures)

pub returns-in-Err-print_report-clause-faults : goal.returns-in-Err-print_report-clause-faults
returns-in-Err-print_report-clause-faults g c = cut_fault _ _ _ c.in-Err-print_report.cut c.in-Err-print_report.ensures.cause (c.code-in-Err-print_report.ensures ∙ ap code_of c.status-in-Err-print_report.ensures)
