-- How the target whose turn it is is found: from the last slot to the first.
-- The bridge's own.
use Rattle.std.specs.Prelude.{◌≡◌, ℕ, ◌+◌, nat_lt, List, Option, Some, None, option_map, if◌then◌else◌}
use Rattle.series_table.specs.Records.{Kept}
use Rattle.target_table.specs.declared.turn.Next.{Next}
use Rattle.target_table.specs.Machine.{fewest}
use Rattle.target_table.specs.Tables.{may_leave, visits_in, next_place}

-- the visits of the track in a slot, where it may be taken
abbrev pub visits_due : ℕ → Option Kept → Option ℕ
visits_due rounds slot = if may_leave rounds slot then Some (visits_in slot) else None

-- the one at a place, where it may be taken, unless one behind it has fewer visits
abbrev pub nearer : Option ℕ → ℕ → Option Next → Option Next
nearer None place behind = behind
nearer (Some visits) place None = Some (record { place = place; visits = visits })
nearer (Some visits) place (Some next) = if nat_lt next.visits visits then Some next else Some (record { place = place; visits = visits })

-- of the slots from a place on: the first that may be taken and has the fewest visits
pub record IsNextDue (rounds : ℕ) (slots : List (Option Kept)) (from : ℕ) (next : Option Next) : Type 0 where
  pub place_is : option_map (λ (n : Next). n.place) next ≡ option_map (λ i. i + from) (next_place rounds slots)
  pub visits_are : option_map (λ (n : Next). n.visits) next ≡ fewest visits_in (may_leave rounds) slots
