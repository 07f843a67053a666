-- The configuration in a file of a world. The bridge's own.
use Rattle.std.specs.Prelude.{◌≡◌, ℕ, ◌<◌, ◌≤◌, ◌⊎◌, List, length, Option, Some, None, IsSome, Result, Ok, Err, ⊤}
use Rattle.std.specs.Io.KnownBytes.{Consumes}
use Rattle.bridge_ports.specs.Causes.{Rose}
use Rattle.bridge_ports.specs.Worlds.{WorldState, OpenFile}
use Rattle.bridge_ports.specs.Outside.{Outside, with_world, with_file_at}
use Rattle.bridge_config.specs.declared.config.Config.{Config}
use Rattle.bridge_config.specs.declared.fault.ConfigFault.{ConfigFault}
use Rattle.bridge_config.specs.ConfigFaults.{IsConfiguration, HasConfigFault}
use Rattle.program_words.specs.declared.stop.Stop.{Stop}
use Rattle.program_words.specs.declared.stop.Stop.TheVariants.{TooLong, Read, BadConfig, Memory}
use Rattle.program_words.specs.Limits.{most_config}
use Rattle.bridge_ports.specs.Inputs.{IsInput, TookAtMost, EndsWithin, IsOverlong}

-- ---- what a file says

-- the bytes of a file, where that tells them, are these, and not too many
pub record HoldsWhole (told : Option (List ℕ)) (bytes : List ℕ) : Type 0 where
  pub on_file : IsInput told bytes
  pub short : length bytes ≤ most_config

-- a file is this configuration
pub record HoldsConfig (told : Option (List ℕ)) (config : Config) : Type 0 where
  pub bytes : List ℕ
  pub holds : HoldsWhole told bytes
  pub is : IsConfiguration bytes config

-- a file has this first fault
pub record HoldsFault (told : Option (List ℕ)) (fault : ConfigFault) : Type 0 where
  pub bytes : List ℕ
  pub holds : HoldsWhole told bytes
  pub has : HasConfigFault bytes fault

-- a file is longer than a configuration may be
pub record IsTooLong (told : Option (List ℕ)) : Type 0 where
  pub bytes : List ℕ
  pub on_file : IsInput told bytes
  pub long : most_config < length bytes

-- what a file has of which no configuration is read
abbrev pub StopsAtFile : Option (List ℕ) → Stop → Type 0
StopsAtFile told TooLong = IsTooLong told
StopsAtFile told Read = ⊤
StopsAtFile told (BadConfig fault) = HoldsFault told fault
StopsAtFile told Memory = ⊤
StopsAtFile told _ = ⊥

-- ---- what becomes of the world

-- the bytes of an open file that are still to come, where that is told
abbrev pub left_of : Option OpenFile → Option (List ℕ)
left_of None = None
left_of (Some file) = file.left

-- of the open file these bytes were taken, and nothing else changed
pub record ReadsFileOn (old new : Outside) (bytes : List ℕ) : Type 0 where
  pub still : IsSome new.world.file
  pub took : Consumes (left_of old.world.file) (left_of new.world.file) bytes
  pub rest : new ≡ with_file_at new.world.file old.world.file_faults old

-- what is seen once the file of this path was asked for, and is open up to here
abbrev pub with_file_asked : List ℕ → Option OpenFile → ℕ → Outside → Outside
with_file_asked path file faults o = with_world (record o.world { asked = Some path; file = file; file_faults = faults }) o

-- a world was asked for the file of this path, and nothing else changed but how far that was read and the count of faults
abbrev pub IsFileAsked : List ℕ → Outside → Outside → Type 0
IsFileAsked path old new = new ≡ with_file_asked path new.world.file new.world.file_faults old

-- how far a file was read where no configuration came of it
abbrev pub StopsReadingFile : Option (List ℕ) → WorldState → WorldState → Stop → Type 0
StopsReadingFile told old new TooLong = IsOverlong most_config told (left_of new.file) × (new.file_faults ≡ old.file_faults)
StopsReadingFile told old new Read = Rose old.file_faults new.file_faults × ((new.file ≡ None) ⊎ TookAtMost most_config told (left_of new.file))
StopsReadingFile told old new (BadConfig fault) = EndsWithin most_config told (left_of new.file) × (new.file_faults ≡ old.file_faults)
StopsReadingFile told old new Memory = TookAtMost most_config told (left_of new.file) × (new.file_faults ≡ old.file_faults)
StopsReadingFile told old new _ = ⊥

-- how far a file was read, and that the count of faults rose exactly where a read failed or it could not be opened
abbrev pub LeavesFile : {T : Type 0} → Option (List ℕ) → WorldState → WorldState → Result T Stop → Type 0
LeavesFile told old new (Ok x) = EndsWithin most_config told (left_of new.file) × (new.file_faults ≡ old.file_faults)
LeavesFile told old new (Err stop) = StopsReadingFile told old new stop
