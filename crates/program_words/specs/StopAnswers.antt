-- The answer where a command stops. The bridge's own.
use Rattle.std.specs.Prelude.{ℕ, List, [], Option, ⊤}
use Rattle.program_words.specs.declared.status.Status.{Status}
use Rattle.program_words.specs.declared.status.Status.TheVariants.{WantOfMemory}
use Rattle.program_words.specs.declared.stop.Stop.{Stop}
use Rattle.program_words.specs.declared.stop.Stop.TheVariants.{Read, Memory}
use Rattle.program_words.specs.Statuses.{code_of}
use Rattle.program_words.specs.Stops.{stop_text, stop_status, TakesMemory}
use Rattle.program_words.specs.InputAnswers.{HasAnswer}

-- the answer to a stop: its status with its text, or want of memory where it takes memory
pub data IsStopAnswer (stop : Stop) : Status → List ℕ → Type 0 where
  said : IsStopAnswer stop (stop_status stop) (stop_text stop)
  wanting : TakesMemory stop → IsStopAnswer stop WantOfMemory []

-- what is printed where a command stops is an answer, but where a read failed or memory was wanted
abbrev pub StopsAs : (List ℕ → ℕ → List ℕ → Type 0) → Option (List ℕ) → Stop → Type 0
StopsAs Says left Read = ⊤
StopsAs Says left Memory = ⊤
StopsAs Says left stop = HasAnswer Says left (code_of (stop_status stop)) (stop_text stop)
