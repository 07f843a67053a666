-- What a run's name fixes.
-- The bridge's own.
use Rattle.std.specs.Prelude.{ℕ, ◌≤◌, ◌<◌, Bool, ◌&&◌, bytes_eq, List, length, All}
use Rattle.std.specs.List.{IsDistinct}
use Rattle.bridge_ports.specs.Targets.{IsScraped}
use Rattle.series_table.specs.Talking.{Followed, AreInRange}
use Rattle.series_table.specs.Records.{most_visits}

-- a run: its targets, and how often each is visited. The target at place n, from 0 on, has the number n + 1
pub record Run : Type 0 where
  pub targets : List Followed
  pub rounds : ℕ

-- the most targets of a run
abbrev pub most_of_run : ℕ
most_of_run = 256

-- both are of one job and instance
abbrev pub is_same_target : Followed → Followed → Bool
is_same_target a b = bytes_eq a.target.job b.target.job && bytes_eq a.target.instance b.target.instance

-- a run that may be: 1 to 256 targets as their type has them, no two of one job and instance, with settings in their ranges, and 1 to 1,000,000 rounds
pub record IsRightRun (run : Run) : Type 0 where
  pub some : 0 < length run.targets
  pub few : length run.targets ≤ most_of_run
  pub distinct : IsDistinct is_same_target run.targets
  pub scraped : All (λ (f : Followed). IsScraped f.target) run.targets
  pub settings : All (λ (f : Followed). AreInRange f.settings) run.targets
  pub rounds : (1 ≤ run.rounds) × (run.rounds ≤ most_visits)
