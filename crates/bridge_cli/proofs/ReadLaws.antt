-- How a command leaves what it reads, where it has something to print and where it stops; and that what is printed behind it changes nothing of that.
use Rattle.std.proofs.Common.{◌≡◌, ◌≢◌, ℕ, List, Option, None, Ok, Err, refl, sym, subst, ◌⊎◌, inl, inr}
use Rattle.bridge_ports.specs.Inputs.{TookAtMost, IsReadThrough}
use Rattle.bridge_ports.specs.Outside.{Outside}
use Rattle.program_words.specs.declared.status.Status.{Status}
use Rattle.program_words.specs.declared.status.Status.TheVariants as statuses
use Rattle.program_words.specs.declared.stop.Stop.{Stop}
use Rattle.program_words.specs.declared.words.Command.{Command}
use Rattle.program_words.specs.declared.words.Command.TheVariants.{Run}
use Rattle.program_words.specs.Statuses.{code_of, IsTold, TellsFault}
use Rattle.program_words.specs.StopAnswers.{IsStopAnswer}
use Rattle.program_words.specs.CommandWords.{Reading, of_nothing, of_input, of_file, WorldUse, uses_nothing, uses_shelf, uses_wires, command_row}
use Rattle.program_words.proofs.Laws.{same_code, stop_through, stop_in_part, stop_fault, stop_not_read, tells_fault}
use Rattle.run_command.specs.ConfigFiles.{left_of}
use Rattle.run_command.proofs.Laws.{stop_left, file_through, file_in_part, file_fault}
use Rattle.bridge_cli.specs.declared.answer.Answer.{Answer}
use Rattle.bridge_cli.specs.CommandReads.{IsAllRead, IsReadInPart, read_count, LeavesRead, LeavesRun, LeavesUsed, IsNoFile}

-- ---- where there is something to print

pub ok_through : {T : Type 0} (reads : Reading) (left now : Option (List ℕ)) (n m : ℕ) (before after : Outside) (x : T) → LeavesRead {T = T} reads left now n m before after (Ok x) → IsAllRead reads left now before after
ok_through of_nothing left now n m before after x leaves = tt
ok_through (of_input most) left now n m before after x leaves = inl leaves.0
ok_through (of_file path most) left now n m before after x leaves = let At : ℕ → Type 0 = λ k. IsReadThrough k (before.files path) (left_of after.world.file) in subst At (sym leaves.0) (inl leaves.1.0)

pub ok_in_part : {T : Type 0} (reads : Reading) (left now : Option (List ℕ)) (n m : ℕ) (before after : Outside) (x : T) → LeavesRead {T = T} reads left now n m before after (Ok x) → IsReadInPart reads left now before after
ok_in_part of_nothing left now n m before after x leaves = tt
ok_in_part (of_input most) left now n m before after x leaves = leaves.0.took
ok_in_part (of_file path most) left now n m before after x leaves = let At : ℕ → Type 0 = λ k. TookAtMost k (before.files path) (left_of after.world.file) in inr (inr (subst At (sym leaves.0) leaves.1.0.took))

ok_count : {T : Type 0} (reads : Reading) (left now : Option (List ℕ)) (n m : ℕ) (before after : Outside) (x : T) → LeavesRead {T = T} reads left now n m before after (Ok x) → read_count reads m after ≡ read_count reads n before
ok_count of_nothing left now n m before after x leaves = refl
ok_count (of_input most) left now n m before after x leaves = leaves.1
ok_count (of_file path most) left now n m before after x leaves = leaves.1.1

pub ok_fault : {T : Type 0} (reads : Reading) (left now : Option (List ℕ)) (n m : ℕ) (before after : Outside) (x : T) (status : Status) → status ≢ statuses.ReadFailed → LeavesRead {T = T} reads left now n m before after (Ok x)
    → TellsFault (code_of statuses.ReadFailed) (code_of status) (read_count reads n before) (read_count reads m after)
ok_fault reads left now n m before after x status other leaves =
    tells_fault _ _ (read_count reads n before) (read_count reads m after) (λ e. absurd (other (same_code status statuses.ReadFailed e))) (λ _. ok_count reads left now n m before after x leaves)

-- ---- where a command stops

pub stop_all_read : (reads : Reading) (left now : Option (List ℕ)) (n m : ℕ) (before after : Outside) (stop : Stop) (status : Status) (text : List ℕ) → IsStopAnswer stop status text
    → LeavesRead {T = Answer} reads left now n m before after (Err stop) → IsTold (code_of status) → IsAllRead reads left now before after
stop_all_read of_nothing left now n m before after stop status text answer leaves told = tt
stop_all_read (of_input most) left now n m before after stop status text answer leaves told = stop_through most left now n m stop status text answer leaves told
stop_all_read (of_file path most) left now n m before after stop status text answer leaves told =
    let At : ℕ → Type 0 = λ k. IsReadThrough k (before.files path) (left_of after.world.file) in
    subst At (sym leaves.0) (file_through (before.files path) before.world after.world stop status text answer leaves.1 told)

pub stop_part_read : (reads : Reading) (left now : Option (List ℕ)) (n m : ℕ) (before after : Outside) (stop : Stop) (status : Status) (text : List ℕ) → IsStopAnswer stop status text
    → LeavesRead {T = Answer} reads left now n m before after (Err stop) → status ≢ statuses.TooLong → IsReadInPart reads left now before after
stop_part_read of_nothing left now n m before after stop status text answer leaves other = tt
stop_part_read (of_input most) left now n m before after stop status text answer leaves other = stop_in_part most left now n m stop status text answer leaves other
stop_part_read (of_file path most) left now n m before after stop status text answer leaves other =
    let At : ℕ → Type 0 = λ k. (after.world.file ≡ None) ⊎ TookAtMost k (before.files path) (left_of after.world.file) in
    inr (subst At (sym leaves.0) (file_in_part (before.files path) before.world after.world stop status text answer leaves.1 other))

pub stop_count : (reads : Reading) (left now : Option (List ℕ)) (n m : ℕ) (before after : Outside) (stop : Stop) (status : Status) (text : List ℕ) → IsStopAnswer stop status text
    → LeavesRead {T = Answer} reads left now n m before after (Err stop) → TellsFault (code_of statuses.ReadFailed) (code_of status) (read_count reads n before) (read_count reads m after)
stop_count of_nothing left now n m before after stop status text answer leaves =
    tells_fault _ _ 0 0 (λ e. absurd (stop_not_read stop status text answer leaves (same_code status statuses.ReadFailed e))) (λ _. refl)
stop_count (of_input most) left now n m before after stop status text answer leaves = stop_fault n m stop status text answer leaves.1
stop_count (of_file path most) left now n m before after stop status text answer leaves = file_fault (before.files path) before.world after.world stop status text answer leaves.1

-- ---- what a run leaves

pub ok_used : (used : WorldUse) (before after : Outside) (answer : Answer) → LeavesRun used before after (Ok answer) → LeavesUsed used before after (code_of answer.status)
ok_used uses_nothing before after answer left = tt
ok_used uses_shelf before after answer left = tt
ok_used (uses_wires path) before after answer left = left

pub stop_used : (used : WorldUse) (before after : Outside) (stop : Stop) (status : Status) (text : List ℕ) → IsStopAnswer stop status text → LeavesRun used before after (Err stop) → LeavesUsed used before after (code_of status)
stop_used uses_nothing before after stop status text answer left = tt
stop_used uses_shelf before after stop status text answer left = tt
stop_used (uses_wires path) before after stop status text answer left = stop_left path before after stop status text answer left

-- ---- behind printing

-- a command that puts wires on a shelf reads no file
pub shelf_reads : (command : Command) → (command_row command).uses ≡ uses_shelf → IsNoFile (command_row command).reads
shelf_reads (Run path) is = absurd cc
shelf_reads _ is = tt

-- so what is said of what it reads does not depend on the world
pub all_read_on : (reads : Reading) (left now : Option (List ℕ)) (before mid after : Outside) → IsNoFile reads → IsAllRead reads left now before mid → IsAllRead reads left now before after
all_read_on of_nothing left now before mid after none read = read
all_read_on (of_input most) left now before mid after none read = read
all_read_on (of_file path most) left now before mid after none read = absurd none

pub part_read_on : (reads : Reading) (left now : Option (List ℕ)) (before mid after : Outside) → IsNoFile reads → IsReadInPart reads left now before mid → IsReadInPart reads left now before after
part_read_on of_nothing left now before mid after none read = read
part_read_on (of_input most) left now before mid after none read = read
part_read_on (of_file path most) left now before mid after none read = absurd none

pub count_on : (reads : Reading) (n : ℕ) (mid after : Outside) → IsNoFile reads → read_count reads n after ≡ read_count reads n mid
count_on of_nothing n mid after none = refl
count_on (of_input most) n mid after none = refl
count_on (of_file path most) n mid after none = absurd none
