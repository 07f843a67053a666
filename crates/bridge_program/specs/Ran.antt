-- What the program did with words, an input, an output and a world, and the status that it ended with.
-- The bridge's own.
use Rattle.std.specs.Prelude.{◌≡◌, ◌⊎◌, ℕ, List, Option, None}
use Rattle.bridge_ports.specs.Outside.{Outside}
use Rattle.program_words.specs.declared.status.Status.TheVariants.{NoForm, WriteFailed}
use Rattle.program_words.specs.declared.words.Command.{Command}
use Rattle.program_words.specs.CommandWords.{IsCommand, FitNoForm}
use Rattle.program_words.specs.HelpTexts.{no_form_text}
use Rattle.program_words.specs.Statuses.{code_of, IsStatus, TellsFault}
use Rattle.world_run.specs.Unused.{AreUnused}
use Rattle.bridge_cli.specs.CommandRuns.{IsWritten, RanCommand}

-- nothing was asked of a world, and the pairs of wires of all targets are at home and unused
pub record IsUnasked (outside : Outside) : Type 0 where
  pub no_file : outside.world.asked ≡ None
  pub no_door : outside.world.door_at ≡ None
  pub pairs : AreUnused outside.home

-- words that fit no form are refused: their line is written, whole or in part, and the input and the world are left alone
pub record RefusesWords {I O W : Type 0} (input input_now : I) (held : O → Option (List ℕ)) (output output_now : O) (world world_now : W) (status : ℕ) : Type 0 where
  pub line : IsWritten (code_of NoForm) no_form_text (held output) (held output_now) status
  pub unread : input_now ≡ input
  pub world_kept : world_now ≡ world

-- what the program did on words: with an input, which tells what it has left and its count of failed reads; with an output, which tells what it holds and its count of failed writes; and with a world, of which this is seen; and the status that it ended with
pub record Ran {I O W : Type 0} (words : List (List ℕ)) (left : I → Option (List ℕ)) (failed_reads : I → ℕ) (input input_now : I) (held : O → Option (List ℕ)) (failed_writes : O → ℕ) (output output_now : O) (seen : W → Outside) (world world_now : W) (status : ℕ) : Type 0 where
  -- the status is one of the program's
  pub statuses : IsStatus status
  -- the words fit no form of the command line, or ask for a command
  pub form : FitNoForm words ⊎ ((command : Command) × IsCommand words command)
  -- what they ask for was done, as the sentences on that command say
  pub command : (command : Command) → IsCommand words command → RanCommand command left failed_reads input input_now held failed_writes output output_now seen world world_now status
  -- words that fit no form are refused
  pub refused : FitNoForm words → RefusesWords input input_now held output output_now world world_now status
  -- the status of such words is theirs alone
  pub no_form : status ≡ code_of NoForm → FitNoForm words
  -- the count of failed writes rose exactly where the status says so
  pub write_faults : TellsFault (code_of WriteFailed) status (failed_writes output) (failed_writes output_now)
