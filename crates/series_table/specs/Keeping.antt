-- A track by its fields.
-- The bridge's own.
use Rattle.std.specs.Prelude.{Bool, Option}
use Rattle.page_model.specs.declared.event.Shown.{Shown}
use Rattle.bridge_ports.specs.Talks.{Plan, WireState}
use Rattle.target_core.specs.States.{Following}
use Rattle.series_table.specs.declared.aim.Aim.{Aim}
use Rattle.series_table.specs.declared.counts.Counts.{Counts}
use Rattle.series_table.specs.Talking.{Followed}
use Rattle.series_table.specs.Records.{Kept}

-- a target as it is visited over wires of these plans
abbrev pub followed_by : Aim → Option Plan → Option Plan → Followed
followed_by aim scrape_plan post_plan = record { target = aim.target; to = aim.to; settings = aim.settings; scrape_plan = scrape_plan; post_plan = post_plan }

-- a track of these fields
abbrev pub kept_with : Aim → WireState → WireState → Following → Shown → Option Shown → Counts → Bool → Kept
kept_with aim scrape post following shown second counts halted = record {
  followed = followed_by aim scrape.plan post.plan;
  scrape = scrape;
  post = post;
  following = following;
  shown = shown;
  second = second;
  counts = counts;
  halted = halted;
}
