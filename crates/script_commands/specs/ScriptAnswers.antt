-- What the commands over scripts answer: a status and a text.
-- The bridge's own.
use Rattle.std.specs.Prelude.{◌≡◌, ℕ, ◌<◌, ◌≤◌, List, length}
use Rattle.replay_script.specs.declared.script.Script.{Script}
use Rattle.replay_script.specs.Scripts.{IsScript, HasScriptFault}
use Rattle.program_words.specs.declared.status.Status.TheVariants.{Done, ScriptRefused, TooLong}
use Rattle.program_words.specs.Statuses.{code_of}
use Rattle.program_words.specs.Stops.{script_text, too_long_text}
use Rattle.program_words.specs.Limits.{most_script}
use Rattle.script_commands.specs.Loads.{IsLoadReport}

-- the bytes on the input are this script
pub record IsScriptInput (script : Script) (bytes : List ℕ) : Type 0 where
  pub short : length bytes ≤ most_script
  pub is : IsScript bytes script

-- what a command that prints a text of a script answers to the bytes on the input: a status and a text
pub data IsScriptAnswer (Prints : Script → List ℕ → Type 0) (bytes : List ℕ) : ℕ → List ℕ → Type 0 where
  script_done : (script : Script) (text : List ℕ) → IsScriptInput script bytes → Prints script text → IsScriptAnswer Prints bytes (code_of Done) text
  script_refused : (line : ℕ) → length bytes ≤ most_script → HasScriptFault bytes line → IsScriptAnswer Prints bytes (code_of ScriptRefused) (script_text line)
  script_too_long : most_script < length bytes → IsScriptAnswer Prints bytes (code_of TooLong) too_long_text

-- what `load` answers: the report of all visits of a script
pub record IsReportAnswer (script : Script) (status : ℕ) (text : List ℕ) : Type 0 where
  pub done : status ≡ code_of Done
  pub reports : IsLoadReport script text
