-- Why a command ends without its text, and what is printed then. The bridge's own.
use Rattle.std.specs.Prelude.{◌≡◌, ℕ, List, [], ◌++◌, codes, Result, Ok, Err, ⊤}
use Rattle.std.specs.Fmt.{decimal}
use Rattle.page_model.specs.declared.fault.PageFault.{PageFault}
use Rattle.page_model.specs.declared.fault.PageFault.TheVariants as faults
use Rattle.page_model.specs.declared.rule.Rule.{Rule}
use Rattle.page_model.specs.RuleNames.{rule_number, rule_name}
use Rattle.replay_script.specs.declared.fault.ScriptFault.{ScriptFault}
use Rattle.replay_script.specs.declared.fault.ScriptFault.TheVariants as script_faults
use Rattle.bridge_config.specs.declared.fault.ConfigFault.{ConfigFault}
use Rattle.bridge_config.specs.declared.fault.ConfigFault.TheVariants as config_faults
use Rattle.bridge_config.specs.ConfigLines.{config_line}
use Rattle.bridge_ports.specs.Causes.{Rose}
use Rattle.program_words.specs.declared.status.Status.{Status}
use Rattle.program_words.specs.declared.status.Status.TheVariants as statuses
use Rattle.program_words.specs.declared.stop.Stop.{Stop}
use Rattle.program_words.specs.declared.stop.Stop.TheVariants.{Refused, BadScript, BadConfig, TooLong, Read, Memory}

-- the line of a page with a fault: the line of the page and the rule that is broken there
unfoldable pub refused_text : ℕ → Rule → List ℕ
refused_text line rule = codes "refused line " ++ decimal line ++ codes " rule " ++ decimal (rule_number rule) ++ codes " " ++ rule_name rule ++ codes "\n"

-- the line of a script with a fault
unfoldable pub script_text : ℕ → List ℕ
script_text line = codes "script line " ++ decimal line ++ codes "\n"

-- the line of an input that is too long
unfoldable pub too_long_text : List ℕ
too_long_text = codes "input too long\n"

-- what is said of a stop: the status, what is printed, and that it comes of want of memory, or that its text takes memory
pub record StopRow : Type 1 where
  pub status : Status
  pub text : List ℕ
  pub memory : Type 0

-- the table of the stops
abbrev pub stop_row : Stop → StopRow
stop_row (Refused line rule) = record { status = statuses.Refused; text = refused_text line rule; memory = ⊤ }
stop_row (BadScript line) = record { status = statuses.ScriptRefused; text = script_text line; memory = ⊤ }
stop_row (BadConfig fault) = record { status = statuses.ConfigRefused; text = config_line fault; memory = ⊤ }
stop_row TooLong = record { status = statuses.TooLong; text = too_long_text; memory = ⊥ }
stop_row Read = record { status = statuses.ReadFailed; text = []; memory = ⊥ }
stop_row Memory = record { status = statuses.WantOfMemory; text = []; memory = ⊤ }

-- what is printed where a command stops
abbrev pub stop_text : Stop → List ℕ
stop_text stop = (stop_row stop).text

-- the status where a command stops
abbrev pub stop_status : Stop → Status
stop_status stop = (stop_row stop).status

-- a stop that comes of want of memory, or whose text takes memory
abbrev pub TakesMemory : Stop → Type 0
TakesMemory stop = (stop_row stop).memory

-- a fault of a page stops the command that reads it
abbrev pub stop_of : PageFault → Stop
stop_of (faults.Refused line rule) = Refused line rule
stop_of faults.Memory = Memory

-- a fault of a script stops the command that reads it
abbrev pub script_stop : ScriptFault → Stop
script_stop (script_faults.Line line) = BadScript line
script_stop script_faults.Memory = Memory

-- a fault of a configuration stops the command that reads it
abbrev pub config_stop : ConfigFault → Stop
config_stop config_faults.Memory = Memory
config_stop fault = BadConfig fault

-- a stop is a failed read where the count of reads that failed rose, and only there
abbrev pub StopCause : ℕ → ℕ → Stop → Type 0
StopCause before now Read = Rose before now
StopCause before now _ = now ≡ before

-- the count of reads that failed rose only where that is what stops a command
abbrev pub ReadCause : {T : Type 0} → ℕ → ℕ → Result T Stop → Type 0
ReadCause before now (Ok x) = now ≡ before
ReadCause before now (Err stop) = StopCause before now stop

-- what stops a command without a read: want of memory
abbrev pub IsUnread : Stop → Type 0
IsUnread Memory = ⊤
IsUnread _ = ⊥
