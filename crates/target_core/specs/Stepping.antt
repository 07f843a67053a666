-- How the code steps: what follows a state, which series a page lacks beside it, and what the trees of a stretch and of a change come to.
-- The bridge's own.
use Rattle.std.specs.Prelude.{◌≡◌, ℕ, Bool, false, List, [], ◌∷◌, map, Option, Some, None, if◌then◌else◌}
use Rattle.std.specs.List.{IsDistinct}
use Rattle.std.specs.Map.{keys_of as row_keys}
use Rattle.label_sets.specs.declared.label_set.LabelSet.{LabelSet}
use Rattle.label_sets.specs.declared.series_key.SeriesKey.{SeriesKey}
use Rattle.label_sets.specs.Keys.{key_eq}
use Rattle.page_model.specs.declared.page.Reading.{Reading}
use Rattle.page_model.specs.declared.page.Page.{Page}
use Rattle.page_model.specs.declared.event.Outcome.{Outcome}
use Rattle.page_model.specs.declared.event.Event.{Event}
use Rattle.page_model.specs.Presence.{all_readings, empty_page}
use Rattle.start_times.specs.declared.row.Row.{Row}
use Rattle.start_times.specs.declared.row.Placed.{Placed}
use Rattle.start_times.specs.declared.row.Starts.{Starts}
use Rattle.start_times.specs.Scrapes.{Scrape, moment_after}
use Rattle.start_times.specs.Starts.{Tracking, reading_place}
use Rattle.start_times.specs.Rows.{Tracked, Tracks, kept_start}
use Rattle.start_times.specs.Advancing.{HasDistinctKeys, lacks_some, scrape_of, starts_of}
use Rattle.staleness.specs.declared.marks.Mark.{Mark}
use Rattle.staleness.specs.Marks.{marks_of, marks_gone}
use Rattle.staleness.specs.Vanished.{keys_gone}
use Rattle.otlp_tree.specs.declared.tree.Request.{Request}
use Rattle.bridge_ports.specs.Targets.{Scraped}
use Rattle.family_metrics.specs.declared.markers.Marker.{Marker}
use Rattle.target_pages.specs.declared.seen.Seen.{Seen}
use Rattle.target_pages.specs.Outcomes.{IsSeen}
use Rattle.target_pages.specs.Stretches.{without_info, stretch_of}
use Rattle.target_core.specs.Trees.{gone_part, request_of}
use Rattle.target_core.specs.Events.{marker_with, first_place}
use Rattle.target_core.specs.States.{Following, GoesOnFrom, Steps}

-- ---- one event more

-- it is an event with this outcome, which behind a scrape at the moment `before`, or behind none, is at this moment
pub record IsEventNext (before : Option ℕ) (e : Event) (outcome : Outcome) (moment : ℕ) : Type 0 where
  pub outcome_is : outcome ≡ e.outcome
  pub moment_is : moment ≡ moment_after before e.reading

-- the state of the same target behind one event more
abbrev pub next_state : Following → LabelSet → Tracked → Bool → Page → ℕ → Following
next_state s resource tracked pending page moment =
    record { target = s.target; keep = s.keep; resource = resource; tracked = tracked; pending = pending; page = page; marks = None; moment = Some moment }

-- the tree of a first event, of which this is seen: its readings have no past, and it has neither markers nor further parts
abbrev pub first_request : Scraped → ℕ → Seen → Request
first_request target moment seen = request_of target seen.resource (first_place target.honor moment) [] moment seen.up seen.series []

-- for all events of which this is seen at this moment: the state steps to these rows with this tree
abbrev pub StepsBySeen : Following → ℕ → Seen → Request → Tracked → Type 0
StepsBySeen s moment seen tree rows = (e : Event) (outcome : Outcome) → IsEventNext s.moment e outcome moment
    → IsSeen s.resource outcome seen.up seen.resource seen.series seen.last → Steps s e tree (next_state s seen.resource rows false seen.last moment)

-- ---- the series of the last page

-- the marks of the last page: those that stand for it, or its own
abbrev pub marks_held : Tracking → Option (List Mark) → Page → List Mark
marks_held t None page = marks_of t page
marks_held t (Some marks) page = marks

-- the series of the last page that a page now lacks
abbrev pub keys_lacked : Tracking → Option (List Mark) → Page → Page → List SeriesKey
keys_lacked t None before now = keys_gone t before now
keys_lacked t (Some marks) before now = marks_gone marks now

-- these are the series that a page now lacks beside a state
abbrev pub AreKeysLacked : Following → Page → List SeriesKey → Type 0
AreKeysLacked s now keys = (t : Tracking) → t.honor ≡ s.target.honor → keys ≡ keys_lacked t s.marks (without_info s.page) now

-- the markers of the series that a page now lacks beside a state, with the starts that these rows keep
abbrev pub lacked_markers : Tracking → Following → List (SeriesKey × Row) → ℕ → Page → List Marker
lacked_markers t s rows moment now = map (marker_with (kept_start rows) moment) (keys_lacked t s.marks (without_info s.page) now)

-- where no series has two rows, these are those markers
abbrev pub AreMarkersLacked : Following → List (SeriesKey × Row) → ℕ → Page → List Marker → Type 0
AreMarkersLacked s rows moment now markers = (t : Tracking) → t.honor ≡ s.target.honor → IsDistinct key_eq (row_keys rows) → markers ≡ lacked_markers t s rows moment now

-- those markers where anything is missed, none where nothing is
abbrev pub missed_markers : Tracking → Following → List (SeriesKey × Row) → Bool → ℕ → Page → List Marker
missed_markers t s rows misses moment now = if misses then lacked_markers t s rows moment now else []

-- where no series has two rows, these are those
abbrev pub AreMarkersMissed : Following → List (SeriesKey × Row) → Bool → ℕ → Page → List Marker → Type 0
AreMarkersMissed s rows misses moment now markers = (t : Tracking) → t.honor ≡ s.target.honor → IsDistinct key_eq (row_keys rows) → markers ≡ missed_markers t s rows misses moment now

-- ---- trees and rows

-- from all events from which the state goes on: these are the rows behind all scrapes since the attributes last changed
abbrev pub IsToldBehind : Following → Tracked → Type 0
IsToldBehind s k = (target : Scraped) (t : Tracking) (events : List Event) → GoesOnFrom target t s events → Tracks t k (stretch_of events)

-- the tree of a page whose readings have these places, under the attributes of a state; where anything is missed, with the markers of what the page lacks
abbrev pub IsTreeWithin : Following → List (SeriesKey × Row) → List (Option Placed) → Bool → ℕ → ℕ → Page → Request → Type 0
IsTreeWithin s rows places misses moment up series tree = (place : Reading → Option Placed) → places ≡ map place (all_readings series)
    → (t : Tracking) → t.honor ≡ s.target.honor → IsDistinct key_eq (row_keys rows)
    → tree ≡ request_of s.target s.resource place (missed_markers t s rows misses moment series) moment up series []

-- the same under other attributes, with all series of the last page in a second part, where these rows were kept of them
abbrev pub IsTreeAnew : Following → List (SeriesKey × Row) → List (Option Placed) → ℕ → ℕ → LabelSet → Page → Request → Type 0
IsTreeAnew s rows places moment up resource series tree = (place : Reading → Option Placed) → places ≡ map place (all_readings series)
    → (t : Tracking) → t.honor ≡ s.target.honor → IsDistinct key_eq (row_keys rows)
    → tree ≡ request_of s.target resource place [] moment up series (gone_part s.target s.resource (lacked_markers t s rows moment empty_page))

-- behind no past a page comes to these places and these rows
abbrev pub AdvancesAnew : Following → Page → ℕ → Starts → Tracked → Type 0
AdvancesAnew s series moment starts next = (t : Tracking) → t.honor ≡ s.target.honor → s.keep ≡ t.keep → HasDistinctKeys series → (starts.list ≡ starts_of t [] series moment) × Tracks t next (scrape_of series moment ∷ [])

-- a page without what describes the target, read behind each past for which these rows stand, comes to this tree and these rows; where it lacks no series
-- with points of the page before, the tree has no markers
abbrev pub ReadsWithin : Following → Tracked → ℕ → ℕ → Page → Request → Tracked → Type 0
ReadsWithin s k moment up series tree next = (t : Tracking) (past : List Scrape) → t.honor ≡ s.target.honor → Tracks t k past → HasDistinctKeys series
    → (tree ≡ request_of s.target s.resource (reading_place t past moment) (missed_markers t s k.rows (lacks_some past series) moment series) moment up series []) × Tracks t next (scrape_of series moment ∷ past)

-- read behind no past under other attributes, it comes to this tree and these rows, where series whose attributes went have these rows
abbrev pub ReadsAnew : Following → List (SeriesKey × Row) → ℕ → ℕ → LabelSet → Page → Request → Tracked → Type 0
ReadsAnew s rows moment up resource series tree next = (t : Tracking) → t.honor ≡ s.target.honor → s.keep ≡ t.keep → IsDistinct key_eq (row_keys rows) → HasDistinctKeys series
    → (tree ≡ request_of s.target resource (reading_place t [] moment) [] moment up series (gone_part s.target s.resource (lacked_markers t s rows moment empty_page)))
    × Tracks t next (scrape_of series moment ∷ [])
