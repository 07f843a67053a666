-- How a command leaves what it reads, and the rest of the world. The bridge's own.
use Rattle.std.specs.Prelude.{◌≡◌, ◌⊎◌, ℕ, List, Option, None, Result, Ok, Err, IsSome, IfErr, ⊤}
use Rattle.bridge_ports.specs.Inputs.{TookAtMost, IsReadThrough}
use Rattle.bridge_ports.specs.Outside.{Outside}
use Rattle.program_words.specs.declared.stop.Stop.{Stop}
use Rattle.program_words.specs.CommandWords.{Reading, of_nothing, of_input, of_file, WorldUse, uses_nothing, uses_shelf, uses_wires}
use Rattle.program_words.specs.Limits.{most_config}
use Rattle.program_words.specs.declared.status.Status.TheVariants.{ReadFailed}
use Rattle.program_words.specs.Statuses.{code_of, TellsFault}
use Rattle.program_words.specs.StopInputs.{Leaves}
use Rattle.program_words.specs.Stops.{IsUnread}
use Rattle.run_command.specs.ConfigFiles.{LeavesFile, left_of}
use Rattle.run_command.specs.RunAnswers.{IsRunLeft}
use Rattle.run_command.specs.RunReports.{LeavesWorld}
use Rattle.script_commands.specs.Shelves.{KeepsAllButShelf}
use Rattle.bridge_cli.specs.declared.answer.Answer.{Answer}

-- ---- what is read

-- what a command reads was read to its end, or past its limit
abbrev pub IsAllRead : Reading → Option (List ℕ) → Option (List ℕ) → Outside → Outside → Type 0
IsAllRead of_nothing left left_now before after = ⊤
IsAllRead (of_input most) left left_now before after = IsReadThrough most left left_now
IsAllRead (of_file path most) left left_now before after = IsReadThrough most (before.files path) (left_of after.world.file)

-- of what a command reads no more was read than its limit; a file may not have been asked for, or not be open
abbrev pub IsReadInPart : Reading → Option (List ℕ) → Option (List ℕ) → Outside → Outside → Type 0
IsReadInPart of_nothing left left_now before after = ⊤
IsReadInPart (of_input most) left left_now before after = TookAtMost most left left_now
IsReadInPart (of_file path most) left left_now before after = (after ≡ before) ⊎ ((after.world.file ≡ None) ⊎ TookAtMost most (before.files path) (left_of after.world.file))

-- the count of failed reads of what a command reads, by that of the input and that of a world
abbrev pub read_count : Reading → ℕ → Outside → ℕ
read_count of_nothing faults outside = 0
read_count (of_input most) faults outside = faults
read_count (of_file path most) faults outside = outside.world.file_faults

-- an input is left alone by a command that does not read it
abbrev pub LeavesInput : {I : Type 0} → Reading → I → I → Type 0
LeavesInput (of_input most) old new = ⊤
LeavesInput _ old new = new ≡ old

-- all that the answer depends on is told: nothing, or the input; the answer to a file depends on more of the world
abbrev pub IsAllTold : Reading → Option (List ℕ) → Type 0
IsAllTold of_nothing left = ⊤
IsAllTold (of_input most) left = IsSome left
IsAllTold (of_file path most) left = ⊥

-- how a command that has something to print, or stops, leaves what it reads
abbrev pub LeavesRead : {T : Type 0} → Reading → Option (List ℕ) → Option (List ℕ) → ℕ → ℕ → Outside → Outside → Result T Stop → Type 0
LeavesRead of_nothing left left_now faults faults_now before after result = IfErr result IsUnread
LeavesRead (of_input most) left left_now faults faults_now before after result = Leaves most left left_now faults faults_now result
LeavesRead (of_file path most) left left_now faults faults_now before after result = (most ≡ most_config) × LeavesFile (before.files path) before.world after.world result

-- the same, of an input and a world before it and behind it, which tell what they have left, their counts of failed reads, and what is seen of them
abbrev pub ReadsOf : {I W T : Type 0} → Reading → (I → Option (List ℕ)) → (I → ℕ) → I → I → (W → Outside) → W → W → Result T Stop → Type 0
ReadsOf reads left faults input input_now seen world world_now result = LeavesRead reads (left input) (left input_now) (faults input) (faults input_now) (seen world) (seen world_now) result

-- what a command reads of them was read to its end, or past its limit
abbrev pub ReadsAllOf : {I W : Type 0} → Reading → (I → Option (List ℕ)) → I → I → (W → Outside) → W → W → Type 0
ReadsAllOf reads left input input_now seen world world_now = IsAllRead reads (left input) (left input_now) (seen world) (seen world_now)

-- a status is that of a failed read exactly where the count of these rose, of what a command reads of them
abbrev pub TellsReads : {I W : Type 0} → ℕ → Reading → (I → ℕ) → I → I → (W → Outside) → W → W → Type 0
TellsReads status reads faults input input_now seen world world_now = TellsFault (code_of ReadFailed) status (read_count reads (faults input) (seen world)) (read_count reads (faults input_now) (seen world_now))

-- no file is read
abbrev pub IsNoFile : Reading → Type 0
IsNoFile (of_file path most) = ⊥
IsNoFile _ = ⊤

-- ---- the world

-- of a world at most what a command uses of it changed, by the status
abbrev pub ChangesOnly : WorldUse → Outside → Outside → ℕ → Type 0
ChangesOnly uses_nothing before after status = after ≡ before
ChangesOnly uses_shelf before after status = KeepsAllButShelf before after
ChangesOnly (uses_wires path) before after status = IsRunLeft path before after status

-- a world is left alone by what comes before printing, but for a run, which is made before its report is printed
abbrev pub IsAlone : {W : Type 0} → WorldUse → W → W → Type 0
IsAlone (uses_wires path) old new = ⊤
IsAlone _ old new = new ≡ old

-- how the run of a configuration, which has an answer or stops, leaves a world
abbrev pub LeavesRun : WorldUse → Outside → Outside → Result Answer Stop → Type 0
LeavesRun (uses_wires path) before after (Ok answer) = IsRunLeft path before after (code_of answer.status)
LeavesRun (uses_wires path) before after (Err stop) = LeavesWorld path before after stop
LeavesRun _ before after result = ⊤

-- what became of a world before printing, at a status
abbrev pub LeavesUsed : WorldUse → Outside → Outside → ℕ → Type 0
LeavesUsed (uses_wires path) before after status = IsRunLeft path before after status
LeavesUsed _ before after status = ⊤
