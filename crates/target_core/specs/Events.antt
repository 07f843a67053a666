-- The tree of an event behind the earlier events of its target, the nearest first, and what the target shows then.
-- OpenTelemetry metrics data model, "Resets and Gaps"; OTLP 1.x, "DataPointFlags" (no recorded value).
use Rattle.std.specs.Prelude.{ℕ, Bool, List, [], ◌∷◌, map, min, unwrap_or, Option, Some, None, option_map, if◌then◌else◌}
use Rattle.label_sets.specs.declared.series_key.SeriesKey.{SeriesKey}
use Rattle.page_model.specs.declared.page.Reading.{Reading}
use Rattle.page_model.specs.declared.event.Outcome.{Outcome}
use Rattle.page_model.specs.declared.event.Event.{Event}
use Rattle.page_model.specs.declared.event.Shown.{Shown}
use Rattle.start_times.specs.declared.row.Placed.{Placed}
use Rattle.start_times.specs.declared.row.Placed.TheVariants.{At}
use Rattle.start_times.specs.Scrapes.{Scrape, last_moment, last_page, scrapes_of}
use Rattle.start_times.specs.Starts.{Tracking, has_points, time_where, created_at, reading_place, start_there}
use Rattle.staleness.specs.Vanished.{keys_gone}
use Rattle.otlp_tree.specs.declared.tree.Request.{Request}
use Rattle.bridge_ports.specs.Targets.{Scraped}
use Rattle.family_metrics.specs.declared.markers.Marker.{Marker}
use Rattle.target_pages.specs.Thinned.{shown_page}
use Rattle.target_pages.specs.Stretches.{attributes_after, resource_attributes, goes_on, moment_of, stretch_scrape, stretch_of, closing_scrape}
use Rattle.target_core.specs.Trees.{gone_part, request_with}

-- the marker of a series that is gone, with the start that it had, but none after the marker's time
unfoldable pub marker_with : (SeriesKey → Option ℕ) → ℕ → SeriesKey → Marker
marker_with start moment key = record { key = key; start = option_map (min moment) (start key); time = moment }

-- the markers of a scrape: of each series that the scrape before had, without a time of its own, and this one lacks, with the start that it had where it was last taken
abbrev pub markers_at : Tracking → List Scrape → Scrape → List Marker
markers_at t past now = map (marker_with (start_there t past) now.moment) (keys_gone t (last_page past) now.page)

-- the tree of an event that leaves the attributes of its target as they were: its page and its markers are read behind the scrapes since these last changed
abbrev pub request_within : Scraped → Tracking → List Event → Event → Request
request_within target t earlier e =
    let past = stretch_of earlier in
    let now = stretch_scrape earlier e in
    request_with target (resource_attributes (e ∷ earlier)) (reading_place t past now.moment) (markers_at t past now) now.moment e.outcome []

-- the tree of an event that changes them: its page has no past, and all series of the scrape before are gone, under the attributes before
abbrev pub request_at_change : Scraped → Tracking → List Event → Event → Request
request_at_change target t earlier e =
    let moment = moment_of earlier e in
    request_with target (resource_attributes (e ∷ earlier)) (reading_place t [] moment) [] moment e.outcome
    (gone_part target (resource_attributes earlier) (markers_at t (stretch_of earlier) (closing_scrape earlier e)))

-- the tree of an event behind these earlier events
unfoldable pub request_after : Scraped → Tracking → List Event → Event → Request
request_after target t earlier e = if goes_on earlier e then request_within target t earlier e else request_at_change target t earlier e

-- the trees of all these events, the last first
abbrev pub requests_of : Scraped → Tracking → List Event → List Request
requests_of target t [] = []
requests_of target t (e ∷ earlier) = request_after target t earlier e ∷ requests_of target t earlier

-- what a target shows behind these events: the page of the last one, and its moment
unfoldable pub latest_shown : Scraped → List Event → Shown
latest_shown target events = record {
  job = target.job;
  instance = target.instance;
  moment = last_moment (scrapes_of events);
  page = shown_page (last_page (scrapes_of events));
}

-- ---- the first event

-- what a reading without a past gives, where times of the page count or not: a point at its time, with the start that its created time is, where that counts, else its time
unfoldable pub first_place : Bool → ℕ → Reading → Option Placed
first_place honor moment r =
    let time = time_where honor moment r in
    if has_points r.key.kind then Some (At time (unwrap_or (created_at time r) time)) else None

-- the tree of the event of a target without a past, at this moment
unfoldable pub event_request : Scraped → ℕ → Outcome → Request
event_request target moment outcome = request_with target (attributes_after [] outcome) (first_place target.honor moment) [] moment outcome []
