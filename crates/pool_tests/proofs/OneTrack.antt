-- A run of one target, which is visited once.
use Rattle.std.proofs.Common.{[], ◌∷◌, arith}
use Rattle.std.specs.List.{IsDistinct}
use Rattle.std.proofs.lemmas.List.Elements.{All-nil, All-cons}
use Rattle.bridge_ports.specs.Targets.{IsScraped}
use Rattle.series_table.specs.Talking.{Talking, Followed, AreInRange}
use Rattle.series_table.specs.Records.{Kept, IsTrack}
use Rattle.target_table.specs.Runs.{IsRightRun}
use Rattle.scraper_pool.specs.Turns.{run_of}

pub is_right_run : (w : Talking) (k : Kept) → IsScraped k.followed.target → IsTrack w k → IsRightRun (run_of 1 (k ∷ []))
unfolding IsDistinct
is_right_run w k scraped track = record {
  some = omega arith;
  few = omega arith;
  distinct = (tt, tt);
  scraped = All-cons (λ (f : Followed). IsScraped f.target) k.followed [] scraped (All-nil (λ (f : Followed). IsScraped f.target));
  settings = All-cons (λ (f : Followed). AreInRange f.settings) k.followed [] track.ranges (All-nil (λ (f : Followed). AreInRange f.settings));
  rounds = (omega arith, omega arith);
}
