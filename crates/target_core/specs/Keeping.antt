-- The parts of a target's state: what a checkpoint holds, all that its later events depend on.
-- The bridge's own.
use Rattle.std.specs.Prelude.{◌≡◌, List, map}
use Rattle.std.specs.List.{IsDistinct}
use Rattle.label_sets.specs.declared.series_key.SeriesKey.{SeriesKey}
use Rattle.label_sets.specs.Keys.{key_eq}
use Rattle.page_model.specs.declared.event.Event.{Event}
use Rattle.start_times.specs.declared.row.Kept.{Kept}
use Rattle.start_times.specs.Scrapes.{last_moment, last_page, scrapes_of}
use Rattle.start_times.specs.Starts.{Tracking}
use Rattle.start_times.specs.Rows.{kept_row}
use Rattle.start_times.specs.Keeping.{row_in, rows_of_past}
use Rattle.staleness.specs.Marks.{marks_of}
use Rattle.bridge_ports.specs.Targets.{Scraped}
use Rattle.target_core.specs.declared.parts.Parts.{Parts}
use Rattle.target_pages.specs.Stretches.{resource_attributes, stretch_of}
use Rattle.target_core.specs.States.{Following, GoesOnFrom, StandsAgain}

-- what is kept behind these events, the nearest first: the rows in the order of keys, the marks in that of the last page
unfoldable pub kept_behind : Tracking → List Event → Parts
kept_behind t events = record {
  moment = last_moment (scrapes_of events);
  resource = resource_attributes events;
  rows = rows_of_past t (stretch_of events);
  marks = marks_of t (last_page (stretch_of events));
}

-- these are parts of these events, in whatever order their rows stand
pub record AreKeptBehind (t : Tracking) (parts : Parts) (events : List Event) : Type 0 where
  pub moment_is : parts.moment ≡ last_moment (scrapes_of events)
  pub resource_is : parts.resource ≡ resource_attributes events
  pub rows_are : (key : SeriesKey) → row_in key parts.rows ≡ kept_row t key (stretch_of events)
  pub rows_once : IsDistinct key_eq (map (λ (k : Kept). k.key) parts.rows)
  pub marks_are : parts.marks ≡ marks_of t (last_page (stretch_of events))

-- from all events from which the state goes on: the rows are theirs
abbrev pub HasRows : Following → List Kept → Type 0
HasRows s rows = (target : Scraped) (t : Tracking) (events : List Event) → GoesOnFrom target t s events → rows ≡ rows_of_past t (stretch_of events)

-- from all events from which the state goes on: the parts are theirs
abbrev pub HasParts : Following → Parts → Type 0
HasParts s parts = (target : Scraped) (t : Tracking) (events : List Event) → GoesOnFrom target t s events → parts ≡ kept_behind t events

-- the state that parts give of a target whose rows are kept over so many misses: behind all events whose parts they are it stands for these
abbrev pub TakesUp : Scraped → Tracking → Parts → Following → Type 0
TakesUp target t parts s = (events : List Event) → AreKeptBehind t parts events → StandsAgain target t s events

-- the parts of events are parts of them
abbrev pub PartsAreTheirs : Type 0
PartsAreTheirs = (t : Tracking) (events : List Event) → AreKeptBehind t (kept_behind t events) events
