-- The statuses that the program ends with. The bridge's own.
use Rattle.std.specs.Prelude.{◌≡◌, ◌≢◌, ◌⊎◌, ℕ, ◌<◌}
use Rattle.bridge_ports.specs.Causes.{Rose}
use Rattle.program_words.specs.declared.status.Status.{Status}
use Rattle.program_words.specs.declared.status.Status.TheVariants.{Done, Refused, NoForm, ReadFailed, WriteFailed, ConfigRefused, WantOfMemory, ScriptRefused, TooLong}

-- the status of the process
abbrev pub code_of : Status → ℕ
code_of Done = 0
code_of Refused = 1
code_of NoForm = 2
code_of ReadFailed = 3
code_of WriteFailed = 4
code_of ConfigRefused = 5
code_of WantOfMemory = 6
code_of ScriptRefused = 7
code_of TooLong = 8

-- a status of the process that the program has
abbrev pub IsStatus : ℕ → Type 0
IsStatus code = (status : Status) × (code ≡ code_of status)

-- the statuses with a text that is printed whole: all but those of a fault of the outside and of want of memory
abbrev pub IsTold : ℕ → Type 0
IsTold code = (code ≢ code_of ReadFailed) × (code ≢ code_of WriteFailed) × (code ≢ code_of WantOfMemory)

-- the statuses without a text: a read failed, or memory was wanted
abbrev pub IsUntold : ℕ → Type 0
IsUntold code = (code ≡ code_of ReadFailed) ⊎ (code ≡ code_of WantOfMemory)

-- the status is this one exactly where a count of faults rose; at the count's last value it may be this one though the count stands still
pub record TellsFault (fault status before now : ℕ) : Type 0 where
  pub rose : status ≡ fault → Rose before now
  pub only : before < now → status ≡ fault
  pub kept : status ≢ fault → now ≡ before
