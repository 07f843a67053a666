-- What a command did over an input, an output and a world, and the status that it ended with.
-- The bridge's own.
use Rattle.std.specs.Prelude.{◌≡◌, ◌≢◌, ◌⊎◌, ℕ, true, false, List, Option}
use Rattle.std.specs.Io.KnownBytes.{Appends}
use Rattle.bridge_ports.specs.Inputs.{IsInput}
use Rattle.bridge_ports.specs.Outside.{Outside}
use Rattle.bridge_ports.specs.Worlds.{ShelvedPair}
use Rattle.bridge_ports.specs.Writing.{WroteFront}
use Rattle.replay_script.specs.declared.script.Script.{Script}
use Rattle.program_words.specs.declared.words.Command.{Command}
use Rattle.program_words.specs.declared.status.Status.TheVariants.{Done, NoForm, ReadFailed, WriteFailed, WantOfMemory}
use Rattle.program_words.specs.CommandWords.{command_row, takes_memory, uses_nothing, uses_shelf}
use Rattle.program_words.specs.Statuses.{code_of, IsStatus, IsTold, IsUntold, TellsFault}
use Rattle.program_words.specs.InputAnswers.{HasAnswer}
use Rattle.script_commands.specs.Shelves.{IsShelfOf}
use Rattle.bridge_cli.specs.Answers.{Answers, VisitsScript, Says, SaysPieces}
use Rattle.bridge_cli.specs.CommandReads.{IsAllRead, IsReadInPart, IsAllTold, LeavesInput, ChangesOnly, read_count}

-- a text of a status was written whole, or a front of it that leaves something, and then a write failed
pub data IsWritten (status : ℕ) (text : List ℕ) (held after : Option (List ℕ)) : ℕ → Type 0 where
  written_whole : Appends held after text → IsWritten status text held after status
  written_part : WroteFront held after text → IsWritten status text held after (code_of WriteFailed)

-- what a command comes to, by some bytes that may have been on the input and a world before and after it, was written, whole or in part, and this is the status of the process
pub record WritesAnswer (command : Command) (left : Option (List ℕ)) (before after : Outside) (held held_now : Option (List ℕ)) (code : ℕ) : Type 0 where
  pub status : ℕ
  pub text : List ℕ
  pub says : HasAnswer (Says command before after) left status text
  pub written : IsWritten status text held held_now code

-- the command prints in pieces, and those that were made were written whole
pub record WritesPieces (command : Command) (left : Option (List ℕ)) (before after : Outside) (held held_now : Option (List ℕ)) : Type 0 where
  pub in_pieces : (command_row command).prints_pieces ≡ true
  pub text : List ℕ
  pub says : HasAnswer (SaysPieces command before after) left (code_of WantOfMemory) text
  pub written : Appends held held_now text

-- where all that it depends on is told, every answer of a command has this status, and its text is what was written
abbrev pub IsOnlyAnswer : Command → Option (List ℕ) → Outside → Outside → Option (List ℕ) → Option (List ℕ) → ℕ → Type 0
IsOnlyAnswer command left before after held held_now status = IsAllTold (command_row command).reads left
    → (bytes : List ℕ) (other : ℕ) (text : List ℕ) → IsInput left bytes → Answers command before after bytes other text → (status ≡ other) × Appends held held_now text

-- some bytes that may have been on the input have a command visit this script, and answer this text, whatever the world
pub record HasVisitAnswer (command : Command) (left : Option (List ℕ)) (script : Script) (text : List ℕ) : Type 0 where
  pub bytes : List ℕ
  pub on_input : IsInput left bytes
  pub visits : VisitsScript command bytes script
  pub says : (before after : Outside) → Answers command before after bytes (code_of Done) text

-- the answer was written, and the wires of the targets that it is about are on the shelf
pub record ShelvesVisits (command : Command) (left held held_now : Option (List ℕ)) (shelf shelf_now : Option (List ShelvedPair)) : Type 0 where
  pub script : Script
  pub text : List ℕ
  pub answer : HasVisitAnswer command left script text
  pub written : Appends held held_now text
  pub shelved : IsShelfOf script shelf shelf_now

-- what a command did with an input, which tells what it has left and its count of failed reads; with an output, which tells what it holds and its count of failed writes; and with a world, of which this is seen; and the status that it ended with
pub record RanCommand {I O W : Type 0} (command : Command) (left : I → Option (List ℕ)) (failed_reads : I → ℕ) (input input_now : I) (held : O → Option (List ℕ)) (failed_writes : O → ℕ) (output output_now : O) (seen : W → Outside) (world world_now : W) (status : ℕ) : Type 0 where
  -- the status is one of the program's, and not that of words that fit no form
  pub statuses : IsStatus status × (status ≢ code_of NoForm)
  -- the text of what it came to was written: whole, or a front of it where a write failed
  pub answered : WritesAnswer command (left input) (seen world) (seen world_now) (held output) (held output_now) status
  -- there is no other answer, neither another status nor another text
  pub only_answer : IsTold status → IsOnlyAnswer command (left input) (seen world) (seen world_now) (held output) (held output_now) status
  -- nothing was written where a read failed
  pub silent : status ≡ code_of ReadFailed → output_now ≡ output
  -- nor where memory was wanting, but the pieces that were made, by a command that prints in pieces
  pub memory : status ≡ code_of WantOfMemory → (output_now ≡ output) ⊎ WritesPieces command (left input) (seen world) (seen world_now) (held output) (held output_now)
  -- memory is wanting only where the command takes memory
  pub ready : takes_memory command ≡ false → status ≢ code_of WantOfMemory
  -- the count of failed writes rose exactly where the status says so
  pub write_faults : TellsFault (code_of WriteFailed) status (failed_writes output) (failed_writes output_now)
  -- an input that the command does not read is left alone
  pub unread : LeavesInput (command_row command).reads input input_now
  -- what it reads was read to its end, or past its limit
  pub read_through : ¬ IsUntold status → IsAllRead (command_row command).reads (left input) (left input_now) (seen world) (seen world_now)
  -- and not past it where a read failed or memory was wanting
  pub read_in_part : IsUntold status → IsReadInPart (command_row command).reads (left input) (left input_now) (seen world) (seen world_now)
  -- the count of failed reads of what it reads rose exactly where the status says so
  pub read_faults : TellsFault (code_of ReadFailed) status (read_count (command_row command).reads (failed_reads input) (seen world)) (read_count (command_row command).reads (failed_reads input_now) (seen world_now))
  -- a world of which the command uses nothing is left alone
  pub world_kept : (command_row command).uses ≡ uses_nothing → world_now ≡ world
  -- of another at most what the command uses changed
  pub changes : ChangesOnly (command_row command).uses (seen world) (seen world_now) status
  -- files stay
  pub files_kept : (seen world_now).files ≡ (seen world).files
  -- where it is done, a command that visits targets over wires in memory has put these on the shelf, behind its answer
  pub shelf : status ≡ code_of Done → (command_row command).uses ≡ uses_shelf → ShelvesVisits command (left input) (held output) (held output_now) (seen world).world.shelf (seen world_now).world.shelf
