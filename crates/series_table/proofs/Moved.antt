-- A track whose second page is moved out keeps what a track keeps.
use Rattle.std.proofs.Common.{refl}
use Rattle.series_table.specs.Talking.{Talking}
use Rattle.series_table.specs.Records.{Kept, HasRecord, IsTrack}
use Rattle.series_table.specs.Moving.{without_second}

record_stays : (w : Talking) (k : Kept) → HasRecord w k → HasRecord w (without_second k)
record_stays w k h = record {
  events = h.events;
  posted = h.posted;
  as_many = h.as_many;
  pages = h.pages;
  counts = h.counts;
  shown = h.shown;
  stands = h.stands;
  bodies = h.bodies;
}

pub track-without_second : (w : Talking) (k : Kept) → IsTrack w k → IsTrack w (without_second k)
track-without_second w k h = record {
  ranges = h.ranges;
  scrape_wire = h.scrape_wire;
  post_wire = h.post_wire;
  history = record_stays w k h.history;
  few_rows = h.few_rows;
  shows = h.shows;
  second_shows = tt;
  unvisited = λ e. refl;
}
