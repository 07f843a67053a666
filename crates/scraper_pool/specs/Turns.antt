-- What a turn says of a lane's share, what the work of a lane comes to, and which run tracks are of.
-- The bridge's own.
use Rattle.std.specs.Prelude.{◌≡◌, ℕ, ◌+◌, ◌<◌, Bool, true, false, List, map}
use Rattle.series_table.specs.Counting.{as_count}
use Rattle.series_table.specs.Records.{Kept}
use Rattle.target_table.specs.Runs.{Run}
use Rattle.scraper_pool.specs.declared.turn.Turn.{Turn}
use Rattle.scraper_pool.specs.declared.turn.Turn.TheVariants.{Visited, Nothing}

-- the share of a lane: the number of the target that is out with it, or 0; how often it took one; and how often there was none to take
pub record Seated : Type 0 where
  pub held : ℕ
  pub taken : ℕ
  pub idle : ℕ

-- the share with these three
abbrev pub seated : ℕ → ℕ → ℕ → Seated
seated held taken idle = record { held = held; taken = taken; idle = idle }

-- the share took a target once more
abbrev pub TookOne : Seated → Seated → Type 0
TookOne before after = (after.taken ≡ as_count (before.taken + 1)) × (after.idle ≡ before.idle)

-- the share found none to take once more
abbrev pub FoundNone : Seated → Seated → Type 0
FoundNone before after = (after.taken ≡ before.taken) × (after.idle ≡ as_count (before.idle + 1))

-- a turn: a target was taken, visited and put back, or there was none to take; no target is out with the lane behind it
abbrev pub IsTurn : Seated → Seated → Turn → Type 0
IsTurn before after Visited = (after.held ≡ 0) × TookOne before after
IsTurn before after Nothing = (after.held ≡ 0) × FoundNone before after

-- the work of a lane: turns until there is none to take; a lane that is not asked to work has no turn
abbrev pub IsWork : Bool → Seated → Seated → Type 0
IsWork false before after = after ≡ before
IsWork true before after = (after.held ≡ 0) × (after.idle ≡ as_count (before.idle + 1))

-- a lane whose shares, all of which are somewhere, are so many, and with which no target is out
abbrev pub IsFreeLane : ℕ → ℕ → ℕ → Type 0
IsFreeLane all parts held = (all ≡ parts) × (0 < all) × (held ≡ 0)

-- the run of the targets of these tracks, each visited so often
abbrev pub run_of : ℕ → List Kept → Run
run_of rounds tracks = record { targets = map (λ (k : Kept). k.followed) tracks; rounds = rounds }
