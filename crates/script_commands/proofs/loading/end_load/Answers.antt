use Rattle.std.proofs.Common.{List, Ok, Err, false, ◌≡◌, inr, subst}
use Rattle.run_report.specs.declared.target_end.TargetEnd.{TargetEnd}
use Rattle.run_report.specs.Ends.{some_halted}
use Rattle.script_commands.proofs.EndLaws.{report_seen}
use Rattle.script_commands.proofs.loading.end_load.Goals as goal

pub returns-in-Err-clause-printed : goal.returns-in-Err-clause-printed
returns-in-Err-clause-printed g c = report_seen _ _ _ _ (Err c.in-Err.cut) c.as_slice.ensures.value c.in-Err.ensures.printed

pub returns-in-Ok-shelve-clause-printed : goal.returns-in-Ok-shelve-clause-printed
returns-in-Ok-shelve-clause-printed g c = report_seen _ _ _ _ (Ok tt) c.as_slice.ensures.value c.in-Ok.ensures.printed

pub returns-in-Ok-shelve-clause-all : goal.returns-in-Ok-shelve-clause-all
returns-in-Ok-shelve-clause-all g c = subst (λ (es : List TargetEnd). some_halted es ≡ false) c.as_slice.ensures.value c.in-Ok.ensures.all

pub returns-clause-printed : goal.returns-clause-printed
returns-clause-printed g c = inr (report_seen _ _ _ _ (Ok tt) c.as_slice.ensures.value c.in-Ok.ensures.printed)
