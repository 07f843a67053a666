-- How a command leaves its input, also where it stops. The bridge's own.
use Rattle.std.specs.Prelude.{◌≡◌, ℕ, List, Option, Result, Ok, Err}
use Rattle.bridge_ports.specs.Inputs.{TookAtMost, EndsWithin, IsOverlong}
use Rattle.program_words.specs.declared.stop.Stop.{Stop}
use Rattle.program_words.specs.declared.stop.Stop.TheVariants as stops
use Rattle.program_words.specs.Stops.{StopCause}

-- how far an input was taken by a command that stops: through, or not past its limit
abbrev pub StopsReading : ℕ → Option (List ℕ) → Option (List ℕ) → Stop → Type 0
StopsReading most left after (stops.Refused line rule) = EndsWithin most left after
StopsReading most left after (stops.BadScript line) = EndsWithin most left after
StopsReading most left after (stops.BadConfig fault) = ⊥
StopsReading most left after stops.TooLong = IsOverlong most left after
StopsReading most left after stops.Read = TookAtMost most left after
StopsReading most left after stops.Memory = TookAtMost most left after

-- how a command that stops leaves an input of at most so many bytes, and the count of its faults
abbrev pub StopLeaves : ℕ → Option (List ℕ) → Option (List ℕ) → ℕ → ℕ → Stop → Type 0
StopLeaves most left after before now stop = StopsReading most left after stop × StopCause before now stop

-- how a command leaves an input of at most so many bytes, and the count of its faults
abbrev pub Leaves : {T : Type 0} → ℕ → Option (List ℕ) → Option (List ℕ) → ℕ → ℕ → Result T Stop → Type 0
Leaves most left after before now (Ok x) = EndsWithin most left after × (now ≡ before)
Leaves most left after before now (Err stop) = StopLeaves most left after before now stop
