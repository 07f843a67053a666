-- Laws of the trees of a history. Each is proved, and a call of the crate stands for it.
-- The bridge's own.
use Rattle.std.specs.Prelude.{◌≡◌, ℕ, ◌≤◌, ◌<◌, true, not, List, [], ◌∷◌, filter, length, Option, None, IfSome, if◌then◌else◌}
use Rattle.std.specs.List.{AllByRecursion, list_all}
use Rattle.label_sets.specs.declared.series_key.SeriesKey.{SeriesKey}
use Rattle.label_sets.specs.Keys.{key_eq}
use Rattle.label_sets.specs.Lists.{some_passes}
use Rattle.page_model.specs.declared.event.Event.{Event}
use Rattle.page_model.specs.declared.page.Reading.{Reading}
use Rattle.page_model.specs.Presence.{all_readings, page_of_outcome, reading_at}
use Rattle.otlp_tree.specs.declared.tree.Request.{Request}
use Rattle.start_times.specs.Scrapes.{Scrape, last_page, moment_after, scrape_after, scrapes_of}
use Rattle.start_times.specs.Starts.{Tracking, reading_place}
use Rattle.start_times.specs.Advancing.{HasDistinctKeys}
use Rattle.staleness.specs.Vanished.{is_gone}
use Rattle.bridge_ports.specs.Targets.{Scraped}
use Rattle.target_pages.specs.Stretches.{is_info}
use Rattle.target_pages.specs.Outcomes.{up_of}
use Rattle.family_metrics.specs.declared.markers.Marker.{Marker}
use Rattle.target_core.specs.Trees.{request_of}
use Rattle.target_core.specs.Events.{marker_with, markers_at, request_after, event_request}

-- without earlier events an event has the tree of a target without a past
abbrev pub EmptyPast : Type 0
EmptyPast = (target : Scraped) (t : Tracking) (e : Event) → t.honor ≡ target.honor → request_after target t [] e ≡ event_request target (moment_after None e.reading) e.outcome

-- moments rise
abbrev pub MomentsRise : Type 0
MomentsRise = (now : Event) (before : Event) (earlier : List Event) → MomentsOf (scrapes_of (now ∷ before ∷ earlier))
  where
    MomentsOf : List Scrape → Type 0
    MomentsOf (a ∷ b ∷ past) = b.moment < a.moment
    MomentsOf _ = Unit {0}

-- ---- each marker once

-- each series that the last scrape of a past had, without a time of its own, and this scrape lacks, has one marker, and no other has one
abbrev pub MarkedOnce : Type 0
MarkedOnce = (t : Tracking) (past : List Scrape) (now : Scrape) (key : SeriesKey) → HasDistinctKeys (last_page past)
    → length (filter (λ (m : Marker). key_eq key m.key) (markers_at t past now)) ≡ (if some_passes (is_gone t now.page) (reading_at key (last_page past)) then 1 else 0)

-- ---- pages without target info

-- no reading of the pages of these events describes the target
abbrev pub DescribeNothing : List Event → Type 0
DescribeNothing events = AllByRecursion (λ (e : Event). list_all (λ (r : Reading). not (is_info r)) (all_readings (page_of_outcome e.outcome)) ≡ true) events

-- without target info an event has one part, read behind all scrapes of its target
abbrev pub OnePartAlone : Type 0
OnePartAlone = (target : Scraped) (t : Tracking) (earlier : List Event) (e : Event) → DescribeNothing (e ∷ earlier) → request_after target t earlier e ≡ plain target t e (scrapes_of earlier) (scrape_after (scrapes_of earlier) e)
  where
    plain : Scraped → Tracking → Event → List Scrape → Scrape → Request
    plain target t e past now = request_of target [] (reading_place t past now.moment) (markers_at t past now) now.moment (up_of e.outcome) now.page []

-- ---- starts of markers

-- no marker has a start after its time
abbrev pub MarkerStartIsBefore : Type 0
MarkerStartIsBefore = (start : SeriesKey → Option ℕ) (moment : ℕ) (key : SeriesKey) → IfSome (marker_with start moment key).start (λ since. since ≤ moment)
