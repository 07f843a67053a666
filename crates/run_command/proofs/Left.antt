-- What a run leaves.
use Rattle.std.proofs.Common.{◌≡◌, ◌⊎◌, ℕ, Bool, List, Option, Result, Ok, Err, sym, ap, subst, ◌∙◌, inl, inr}
use Rattle.std.specs.Prelude.{IfErr, IsErrAnd}
use Rattle.bridge_ports.specs.Worlds.{WorldState, OpenFile}
use Rattle.bridge_ports.specs.Outside.{Outside}
use Rattle.bridge_ports.specs.Inputs.{EndsWithin}
use Rattle.program_words.specs.Limits.{most_config}
use Rattle.program_words.specs.declared.stop.Stop.{Stop}
use Rattle.program_words.specs.declared.stop.Stop.TheVariants.{Memory}
use Rattle.run_command.specs.ConfigFiles.{IsFileAsked, LeavesFile, StopsReadingFile, left_of}
use Rattle.bridge_config.specs.declared.config.Config.{Config}
use Rattle.run_report.specs.declared.target_end.TargetEnd.{TargetEnd}
use Rattle.world_run.specs.Serving.{IsServedRun, IsUnserved, ChangesDoorsAlone, ChangesAtMost}
use Rattle.world_run.proofs.Laws.{served_changes, unserved_changes}
use Rattle.run_command.specs.RunReports.{IsReportOfRun, MayHaveRun, LeavesWorld, IsRunAsked}

-- no configuration came of the file
pub stopped : {T : Type 0} (r : Result T Stop) (path : List ℕ) (before after : Outside) → IsFileAsked path before after → IfErr r (LeavesWorld path before after)
stopped (Ok x) path before after asked = tt
stopped (Err Memory) path before after asked = inl asked
stopped (Err _) path before after asked = asked

-- memory was wanted for a run, or for the report of one
pub wanting : {T : Type 0} (r : Result T Stop) (path : List ℕ) (before after : Outside) → IsErrAnd r (λ s. s ≡ Memory) → MayHaveRun path before after → IfErr r (LeavesWorld path before after)
wanting (Ok x) path before after is may = absurd is
wanting (Err s) path before after is may = let Left : Stop → Type 0 = LeavesWorld path before after in subst Left (sym is) (inr may)

-- ---- what becomes of a world

-- a run that is reported asked for the file alone, and changed at most what a run may change
pub report_asked : {path : List ℕ} {before after : Outside} {text : List ℕ} {halted : Bool} → IsReportOfRun path before after text halted → IsRunAsked path before after
report_asked report = record { config = report.config; asked = report.asked; read = report.read; changes = served_changes report.run }

left_changes : (c : Config) (asked after : Outside) → IsUnserved c asked after ⊎ ((ends : List TargetEnd) × (served : ℕ) × IsServedRun c asked after ends served) → ChangesAtMost c.door asked after
left_changes c asked after (inl not_begun) = unserved_changes not_begun
left_changes c asked after (inr run) = served_changes run.2

-- and so did one that may have been
pub run_asked : {path : List ℕ} {before after : Outside} → MayHaveRun path before after → IsRunAsked path before after
run_asked may = record { config = may.config; asked = may.asked; read = may.read; changes = left_changes may.config may.asked _ may.left }

-- ---- the file

-- how far it was read, and the count of its faults, stay where doors alone change
pub ends_on : (told : Option (List ℕ)) (old mid new : WorldState) → EndsWithin most_config told (left_of mid.file) × (mid.file_faults ≡ old.file_faults) → ChangesDoorsAlone mid new → EndsWithin most_config told (left_of new.file) × (new.file_faults ≡ old.file_faults)
ends_on told old mid new leaves alone =
    (subst (λ (f : Option OpenFile). EndsWithin most_config told (left_of f)) (sym (ap (λ (w : WorldState). w.file) alone)) leaves.0, ap (λ (w : WorldState). w.file_faults) alone ∙ leaves.1)

pub leaves_on : {T S : Type 0} (r : Result T Stop) (x : S) (told : Option (List ℕ)) (old mid new : WorldState) → IfErr r (λ s. s ≡ Memory) → LeavesFile {T = S} told old mid (Ok x) → ChangesDoorsAlone mid new → LeavesFile told old new r
leaves_on (Ok y) x told old mid new is leaves alone = ends_on told old mid new leaves alone
leaves_on (Err s) x told old mid new is leaves alone =
    let on = ends_on told old mid new leaves alone in let Stops : Stop → Type 0 = StopsReadingFile told old new in subst Stops (sym is) (on.0.took, on.1)

-- want of memory alone
pub memory_alone : {T : Type 0} (r : Result T Stop) → IsErrAnd r (λ s. s ≡ Memory) → IfErr r (λ s. s ≡ Memory)
memory_alone (Ok x) is = absurd is
memory_alone (Err s) is = is
