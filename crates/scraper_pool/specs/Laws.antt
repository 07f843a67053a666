-- That the counts of a share tell a turn, and that no more connections are answered than were handed out. Both are proved, and a call of the crate stands for each.
-- The bridge's own.
use Rattle.std.specs.Prelude.{◌≡◌, ◌↔◌, ℕ, ◌+◌, ◌-◌, ◌^◌, ◌≤◌, ◌<◌}
use Rattle.bridge_ports.specs.Doors.{DoorState}
use Rattle.scraper_pool.specs.declared.turn.Turn.{Turn}
use Rattle.scraper_pool.specs.declared.turn.Turn.TheVariants.{Visited, Nothing}
use Rattle.scraper_pool.specs.Turns.{Seated, IsTurn}
use Rattle.series_table.specs.HttpTalks.{talking}
use Rattle.target_table.specs.Runs.{Run}
use Rattle.scraper_pool.specs.Federating.{IsSelectedPage}
use Rattle.scraper_pool.specs.Serving.{HasServed}

-- a target was visited exactly where the count of takes rose, and there was none exactly where the count of idle turns rose
pub record IsToldByCounts (before after : Seated) (turn : Turn) : Type 0 where
  pub visited : (turn ≡ Visited) ↔ (after.taken ≡ before.taken + 1)
  pub nothing : (turn ≡ Nothing) ↔ (after.idle ≡ before.idle + 1)

-- where neither count stands at its last value, they tell the turn
abbrev pub TurnsAreTold : Type 0
TurnsAreTold = (before after : Seated) (turn : Turn) → before.taken < 2 ^ 64 - 1 → before.idle < 2 ^ 64 - 1 → IsTurn before after turn → IsToldByCounts before after turn

-- no more connections were answered than were handed out
abbrev pub FewServed : Type 0
FewServed = (run : Run) (pages : ℕ) (old new : DoorState) (served : ℕ) → HasServed (IsSelectedPage talking run) pages old new served → served ≤ new.handed
