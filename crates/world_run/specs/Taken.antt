-- How a run takes the pairs of its targets, and how they come home.
-- The bridge's own.
use Rattle.std.specs.Prelude.{◌≡◌, ℕ, ◌+◌, ◌<◌, true, false, List, length, slice_index_or, Option, Some, None, IsSome}
use Rattle.bridge_ports.specs.Targets.{IsScraped}
use Rattle.bridge_ports.specs.Worlds.{KeepsOthers}
use Rattle.bridge_ports.specs.Outside.{SeenPair, Outside, with_pairs}
use Rattle.series_table.specs.HttpTalks.{talking}
use Rattle.series_table.specs.Records.{Kept}
use Rattle.series_table.specs.Tracks.{IsTrackAt}
use Rattle.bridge_config.specs.declared.config.Config.{Config}
use Rattle.run_report.specs.declared.target_end.TargetEnd.{TargetEnd}

-- this holds of each track, by its place from 0 on
abbrev pub EachTrack : (ℕ → Kept → Type 0) → List Kept → Type 0
EachTrack P tracks = (i : ℕ) (d : Kept) → i < length tracks → P i (slice_index_or tracks i d)

-- a track of a configuration's target at this place that was not visited
pub record IsFirstTrack (c : Config) (place : ℕ) (k : Kept) : Type 0 where
  pub at : IsTrackAt talking k.followed place k
  pub scraped : IsScraped k.followed.target
  pub settings : k.followed.settings ≡ c.settings
  pub to : k.followed.to ≡ c.collector
  pub unvisited : k.counts.visits ≡ 0
  pub goes_on : k.halted ≡ false

-- the wires of a track are those of the pair of its number
abbrev pub IsPairOf : (ℕ → Option SeenPair) → ℕ → Kept → Type 0
IsPairOf home place k = home (place + 1) ≡ Some (k.scrape, k.post)

-- the pair of a track is out, and was handed out with the addresses of its target and of the collector
pub record IsOut (outside : Outside) (place : ℕ) (k : Kept) : Type 0 where
  pub away : outside.home (place + 1) ≡ None
  pub given_is : outside.given (place + 1) ≡ Some (record { scrape = k.followed.target.address; post = k.followed.to })

-- the wires of a track are in the places of its number
pub record IsInPlace (place : ℕ) (k : Kept) : Type 0 where
  pub scrape : k.scrape.place ≡ record { number = place + 1; post = false }
  pub post : k.post.place ≡ record { number = place + 1; post = true }

-- the pair of a track was handed out and is not at home
abbrev pub IsAway : Outside → ℕ → Kept → Type 0
IsAway outside place k = (outside.home (place + 1) ≡ None) × IsSome (outside.given (place + 1))

-- what is not the pair of this number is as it was
pub record KeepsOtherPairs (number : ℕ) (before after : Outside) : Type 0 where
  pub but_pairs : after ≡ with_pairs after.home after.given before
  pub homes : KeepsOthers number before.home after.home
  pub addresses : KeepsOthers number before.given after.given

-- the job and the instance of a target that ended
abbrev pub end_names : TargetEnd → List ℕ × List ℕ
end_names e = (e.job, e.instance)

-- the job and the instance of a track's target
abbrev pub track_names : Kept → List ℕ × List ℕ
track_names k = (k.followed.target.job, k.followed.target.instance)
