-- What `run` answers where it gives a report, and where it stops; and how it then leaves a world and its file.
use Rattle.std.proofs.Common.{◌≡◌, ◌≢◌, ◌⊎◌, inl, inr, ℕ, Bool, true, false, List, Option, None, refl, ap, ◌∙◌, arith}
use Rattle.bridge_ports.specs.Inputs.{TookAtMost, IsReadThrough}
use Rattle.bridge_ports.specs.Worlds.{WorldState}
use Rattle.bridge_ports.specs.Outside.{Outside}
use Rattle.program_words.specs.declared.status.Status.{Status}
use Rattle.program_words.specs.declared.status.Status.TheVariants as statuses
use Rattle.program_words.specs.declared.stop.Stop.{Stop}
use Rattle.program_words.specs.declared.stop.Stop.TheVariants.{TooLong, Read, BadConfig, Memory}
use Rattle.program_words.specs.Limits.{most_config}
use Rattle.program_words.specs.Statuses.{code_of, IsTold, TellsFault}
use Rattle.program_words.specs.StopAnswers.{IsStopAnswer, said, wanting, StopsAs}
use Rattle.program_words.proofs.Laws.{any_bytes, tells_fault}
use Rattle.run_command.specs.ConfigFiles.{IsFileAsked, StopsAtFile, StopsReadingFile, left_of}
use Rattle.run_command.specs.RunReports.{IsReportOfRun, MayHaveRun, LeavesWorld}
use Rattle.run_command.specs.RunAnswers.{run_status, IsRunAnswer, run_refused, run_too_long, AsksAtMost, IsRunLeft}
use Rattle.run_command.proofs.Left.{report_asked, run_asked}

-- ---- what it answers

-- where it stops
pub run_stops : (path : List ℕ) (before after : Outside) (left : Option (List ℕ)) (stop : Stop) → StopsAtFile (before.files path) stop → LeavesWorld path before after stop → StopsAs (λ bytes. IsRunAnswer path before after) left stop
run_stops path before after left Read stops asked = tt
run_stops path before after left Memory stops asked = tt
run_stops path before after left TooLong stops asked = any_bytes (λ bytes. IsRunAnswer path before after) left _ _ (λ bytes. run_too_long stops asked)
run_stops path before after left (BadConfig fault) stops asked = any_bytes (λ bytes. IsRunAnswer path before after) left _ _ (λ bytes. run_refused fault stops asked)
run_stops path before after left _ stops asked = absurd stops

-- ---- what it leaves of a world

-- nothing but the file was asked for
asked_left : (path : List ℕ) (before after : Outside) (status : ℕ) → IsFileAsked path before after → IsRunLeft path before after status
asked_left path before after status asked = record { asked = inr (inl asked); unread = λ e. asked; wanting = λ e. inr (inl asked) }

-- a run that is reported is one that may have been
report_may : (path : List ℕ) (before after : Outside) (text : List ℕ) (halted : Bool) → IsReportOfRun path before after text halted → MayHaveRun path before after
report_may path before after text halted report = record { config = report.config; asked = report.asked; read = report.read; left = inr (report.ends, report.served, report.run) }

-- no run that is over ends as a failed read
over_read : (halted : Bool) → code_of (run_status halted) ≢ code_of statuses.ReadFailed
over_read false e = omega (arith, e)
over_read true e = omega (arith, e)

-- behind a report
pub report_left : (path : List ℕ) (before after : Outside) (text : List ℕ) (halted : Bool) → IsReportOfRun path before after text halted → IsRunLeft path before after (code_of (run_status halted))
report_left path before after text halted report = record {
  asked = inr (inr (report_asked report));
  unread = λ e. absurd (over_read halted e);
  wanting = λ e. inr (inr (report_may path before after text halted report));
}

may_asked : (path : List ℕ) (before after : Outside) → IsFileAsked path before after ⊎ MayHaveRun path before after → AsksAtMost path before after
may_asked path before after (inl asked) = inr (inl asked)
may_asked path before after (inr may) = inr (inr (run_asked may))

wanting_left : (path : List ℕ) (before after : Outside) → IsFileAsked path before after ⊎ MayHaveRun path before after → IsRunLeft path before after (code_of statuses.WantOfMemory)
wanting_left path before after left = record { asked = may_asked path before after left; unread = λ e. absurd (omega (arith, e)); wanting = λ e. inr left }

-- where it stopped
pub stop_left : (path : List ℕ) (before after : Outside) (stop : Stop) (status : Status) (text : List ℕ) → IsStopAnswer stop status text → LeavesWorld path before after stop → IsRunLeft path before after (code_of status)
stop_left path before after Memory status text said left = wanting_left path before after left
stop_left path before after Memory status text (wanting takes) left = wanting_left path before after left
stop_left path before after _ status text is left = asked_left path before after (code_of status) left

-- where it was not begun
pub unbegun_left : (path : List ℕ) (before : Outside) (status : ℕ) → status ≢ code_of statuses.ReadFailed → IsRunLeft path before before status
unbegun_left path before status other = record { asked = inl refl; unread = λ e. absurd (other e); wanting = λ e. inl refl }

-- of a run only the status of a failed write is another than what it came to
pub cut_left : (path : List ℕ) (before after : Outside) (status : ℕ) → IsRunLeft path before after status → IsRunLeft path before after (code_of statuses.WriteFailed)
cut_left path before after status left = record { asked = left.asked; unread = λ e. absurd (omega (arith, e)); wanting = λ e. absurd (omega (arith, e)) }

-- files stay
pub files_stay : (path : List ℕ) (before after : Outside) → AsksAtMost path before after → after.files ≡ before.files
files_stay path before after (inl same) = ap (λ (o : Outside). o.files) same
files_stay path before after (inr (inl asked)) = ap (λ (o : Outside). o.files) asked
files_stay path before after (inr (inr run)) = run.changes.files ∙ ap (λ (o : Outside). o.files) run.read.file

-- ---- how far the file was read

-- at the statuses with a text it was read through
pub file_through : (told : Option (List ℕ)) (old new : WorldState) (stop : Stop) (status : Status) (text : List ℕ) → IsStopAnswer stop status text → StopsReadingFile told old new stop → IsTold (code_of status)
    → IsReadThrough most_config told (left_of new.file)
file_through told old new TooLong status text said leaves is = inr leaves.0
file_through told old new (BadConfig fault) status text said leaves is = inl leaves.0
file_through told old new Read status text said leaves is = absurd (is.0 refl)
file_through told old new Memory status text said leaves is = absurd (is.2 refl)
file_through told old new stop status text (wanting takes) leaves is = absurd (is.2 refl)
file_through told old new _ status text said leaves is = absurd leaves

-- unless it was too long, no more was taken than the limit, where it could be opened
pub file_in_part : (told : Option (List ℕ)) (old new : WorldState) (stop : Stop) (status : Status) (text : List ℕ) → IsStopAnswer stop status text → StopsReadingFile told old new stop → status ≢ statuses.TooLong
    → (new.file ≡ None) ⊎ TookAtMost most_config told (left_of new.file)
file_in_part told old new TooLong status text said leaves other = absurd (other refl)
file_in_part told old new TooLong status text (wanting takes) leaves other = absurd takes
file_in_part told old new (BadConfig fault) status text is leaves other = inr leaves.0.took
file_in_part told old new Read status text is leaves other = leaves.1
file_in_part told old new Memory status text is leaves other = inr leaves.0
file_in_part told old new _ status text is leaves other = absurd leaves

-- no call failed
no_fault : (code status before now : ℕ) → status ≢ code → now ≡ before → TellsFault code status before now
no_fault code status before now other same = tells_fault code status before now (λ e. absurd (other e)) (λ _. same)

-- its status tells a failed read
pub file_fault : (told : Option (List ℕ)) (old new : WorldState) (stop : Stop) (status : Status) (text : List ℕ) → IsStopAnswer stop status text → StopsReadingFile told old new stop
    → TellsFault (code_of statuses.ReadFailed) (code_of status) old.file_faults new.file_faults
file_fault told old new Read status text said leaves = tells_fault _ _ old.file_faults new.file_faults (λ _. leaves.0) (λ other. absurd (other refl))
file_fault told old new Read status text (wanting takes) leaves = absurd takes
file_fault told old new TooLong status text said leaves = no_fault _ _ old.file_faults new.file_faults (λ e. omega (arith, e)) leaves.1
file_fault told old new TooLong status text (wanting takes) leaves = absurd takes
file_fault told old new (BadConfig fault) status text said leaves = no_fault _ _ old.file_faults new.file_faults (λ e. omega (arith, e)) leaves.1
file_fault told old new (BadConfig fault) status text (wanting takes) leaves = no_fault _ _ old.file_faults new.file_faults (λ e. omega (arith, e)) leaves.1
file_fault told old new Memory status text said leaves = no_fault _ _ old.file_faults new.file_faults (λ e. omega (arith, e)) leaves.1
file_fault told old new Memory status text (wanting takes) leaves = no_fault _ _ old.file_faults new.file_faults (λ e. omega (arith, e)) leaves.1
file_fault told old new _ status text is leaves = absurd leaves
