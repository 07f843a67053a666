-- The values of samples beside their times, of which those of the first samples may be absent and then are not kept (the bridge's own).
use Rattle.std.specs.Prelude.{◌≡◌, ◌<◌, ◌-◌, ◌||◌, ◌==◌, ℕ, Bool, true, not, List, [], ◌∷◌, ◌++◌, Option, None, MatchOption, is_some, length, replicate, vec_len, vec_capacity, if◌then◌else◌}
use Rattle.std.specs.declared.vec.Vec.{Vec}
use Rattle.std.specs.declared.vec.IntoIter.{IntoIter}
use Rattle.std.specs.declared.alloc.Global.{Global}
use Rattle.std.specs.Vec.Iter.{into_iter_items}
use Rattle.exact_decimal.specs.declared.number.Number.{Number}
use Rattle.family_rules.specs.declared.timed_values.TimedValue.{TimedValue}

-- each value with the time at its place
abbrev pub paired : List Number → List (Option ℕ) → List TimedValue
paired [] times = []
paired (v ∷ vs) [] = []
paired (v ∷ vs) (t ∷ ts) = record { value = v; time = t } ∷ paired vs ts

-- so many times that are absent
abbrev pub bare_times : ℕ → List (Option ℕ)
bare_times count = replicate count None

-- so many times that are absent, and these
abbrev pub behind_bare : ℕ → List (Option ℕ) → List (Option ℕ)
behind_bare bare times = bare_times bare ++ times

-- values, of which the last have these times
abbrev pub timed_values : List Number → List (Option ℕ) → List TimedValue
timed_values values times = paired values (behind_bare (length values - length times) times)

-- a time behind these is kept: some are, or it is there
abbrev pub keeps_time : List (Option ℕ) → Option ℕ → Bool
keeps_time times time = not (length times == 0) || is_some time

-- the times that are kept, with one more
abbrev pub with_time : List (Option ℕ) → Option ℕ → List (Option ℕ)
with_time times time = if keeps_time times time then times ++ time ∷ [] else times

-- there is room for a time, where it is kept
abbrev pub HasRoomForTime : Vec (Option ℕ) Global → Option ℕ → Type 0
HasRoomForTime times time = keeps_time times.items time ≡ true → vec_len times < vec_capacity times

-- the times that are still to come
abbrev pub times_to_come : ℕ → IntoIter (Option ℕ) Global → List (Option ℕ)
times_to_come bare times = behind_bare bare (into_iter_items times)

-- this comes next of what is to come, or nothing is to come
abbrev pub ComesNext : {A : Type 0} → Option A → List A → List A → Type 0
ComesNext next old new = MatchOption next ((old ≡ []) × (new ≡ [])) (λ x. old ≡ x ∷ new)
