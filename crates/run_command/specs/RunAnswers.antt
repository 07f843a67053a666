-- What the command `run` answers, and how it leaves a world. The bridge's own.
use Rattle.std.specs.Prelude.{◌≡◌, ◌⊎◌, ℕ, Bool, true, false, List}
use Rattle.bridge_ports.specs.Outside.{Outside}
use Rattle.bridge_config.specs.declared.fault.ConfigFault.{ConfigFault}
use Rattle.bridge_config.specs.ConfigLines.{config_line}
use Rattle.program_words.specs.declared.status.Status.{Status}
use Rattle.program_words.specs.declared.status.Status.TheVariants.{Done, ReadFailed, ConfigRefused, WantOfMemory, TooLong}
use Rattle.program_words.specs.Statuses.{code_of}
use Rattle.program_words.specs.Stops.{too_long_text}
use Rattle.run_command.specs.ConfigFiles.{HoldsFault, IsTooLong, IsFileAsked}
use Rattle.run_command.specs.RunReports.{IsReportOfRun, MayHaveRun, IsRunAsked}

-- the status of a run that is over: where some target was halted, memory was wanted
abbrev pub run_status : Bool → Status
run_status false = Done
run_status true = WantOfMemory

-- a status and a text that `run` answers, of a world before and after it; where no report comes of a file, that alone was asked for
pub data IsRunAnswer (path : List ℕ) (before after : Outside) : ℕ → List ℕ → Type 0 where
  run_over : (text : List ℕ) (halted : Bool) → IsReportOfRun path before after text halted → IsRunAnswer path before after (code_of (run_status halted)) text
  run_refused : (fault : ConfigFault) → HoldsFault (before.files path) fault → IsFileAsked path before after → IsRunAnswer path before after (code_of ConfigRefused) (config_line fault)
  run_too_long : IsTooLong (before.files path) → IsFileAsked path before after → IsRunAnswer path before after (code_of TooLong) too_long_text

-- a world was asked for no other file than that of a path, and behind that at most what the run of a configuration may change did
abbrev pub AsksAtMost : List ℕ → Outside → Outside → Type 0
AsksAtMost path before after = (after ≡ before) ⊎ (IsFileAsked path before after ⊎ IsRunAsked path before after)

-- what `run` leaves of a world, by its status
pub record IsRunLeft (path : List ℕ) (before after : Outside) (status : ℕ) : Type 0 where
  -- no other file is asked for; where it is a configuration, at most what is told of doors and of pairs of wires changes behind that, and what is to come at the configuration's door
  pub asked : AsksAtMost path before after
  -- where a read failed, nothing but the file was asked for
  pub unread : status ≡ code_of ReadFailed → IsFileAsked path before after
  -- where memory was wanting, nothing was, or the file, and its configuration may have been run
  pub wanting : status ≡ code_of WantOfMemory → (after ≡ before) ⊎ (IsFileAsked path before after ⊎ MayHaveRun path before after)
