-- What a target's state stands for.
-- The bridge's own.
use Rattle.std.specs.Prelude.{◌≡◌, ◌⊎◌, ℕ, ◌<◌, ◌-◌, ◌^◌, Bool, true, false, List, [], ◌∷◌, Option, Some, None, ⊤, Result, IfOk}
use Rattle.label_sets.specs.declared.label_set.LabelSet.{LabelSet}
use Rattle.page_model.specs.declared.page.Page.{Page}
use Rattle.page_model.specs.declared.event.Event.{Event}
use Rattle.page_model.specs.declared.event.Shown.{Shown}
use Rattle.page_model.specs.Presence.{empty_page, page_of_outcome}
use Rattle.start_times.specs.Scrapes.{Scrape, last_moment, last_page, moment_after, scrapes_of}
use Rattle.start_times.specs.Starts.{Tracking}
use Rattle.start_times.specs.Rows.{Tracked, Tracks}
use Rattle.start_times.specs.Advancing.{HasDistinctKeys}
use Rattle.staleness.specs.declared.marks.Mark.{Mark}
use Rattle.staleness.specs.Marks.{marks_of}
use Rattle.otlp_tree.specs.declared.tree.Request.{Request}
use Rattle.bridge_ports.specs.Targets.{Scraped}
use Rattle.target_pages.specs.Stretches.{resource_attributes, stretch_of}
use Rattle.target_pages.specs.Thinned.{shown_page}
use Rattle.target_core.specs.Events.{request_after, event_request, latest_shown}

-- a state as its contracts see it: the target, over how many misses its series keep their starts, the attributes that its pages give it, what is kept
-- of its series since these last changed, whether its last page is still to be put among that, that page as it is shown, the marks that stand for the
-- page where a checkpoint kept no more of it, and its last moment, where there was one
pub record Following : Type 0 where
  pub target : Scraped
  pub keep : ℕ
  pub resource : LabelSet
  pub tracked : Tracked
  pub pending : Bool
  pub page : Page
  pub marks : Option (List Mark)
  pub moment : Option ℕ

-- the scrapes behind which the rows stand: all, or all but the last
abbrev pub told_scrapes : Bool → List Scrape → List Scrape
told_scrapes false past = past
told_scrapes true [] = []
told_scrapes true (last ∷ before) = before

-- the state stands for these events of a target, the nearest first
pub record StandsFor (target : Scraped) (t : Tracking) (s : Following) (events : List Event) : Type 0 where
  pub target_is : s.target ≡ target
  pub keep_is : s.keep ≡ t.keep
  pub honor_is : t.honor ≡ target.honor
  pub resource_is : s.resource ≡ resource_attributes events
  pub tracks : Tracks t s.tracked (told_scrapes s.pending (stretch_of events))
  pub distinct : s.pending ≡ true → HasDistinctKeys s.page
  pub page_is : s.page ≡ shown_page (last_page (scrapes_of events))
  pub has_page : s.marks ≡ None
  pub moment_is : s.moment ≡ last_moment (scrapes_of events)

-- the state stands for these events, though it has no more of their last page than the marks
pub record StandsAgain (target : Scraped) (t : Tracking) (s : Following) (events : List Event) : Type 0 where
  pub target_is : s.target ≡ target
  pub keep_is : s.keep ≡ t.keep
  pub honor_is : t.honor ≡ target.honor
  pub resource_is : s.resource ≡ resource_attributes events
  pub tracks : Tracks t s.tracked (stretch_of events)
  pub none_pending : s.pending ≡ false
  pub page_is : s.page ≡ empty_page
  pub marks_are : s.marks ≡ Some (marks_of t (last_page (stretch_of events)))
  pub moment_is : s.moment ≡ last_moment (scrapes_of events)

-- the state goes on from these events
abbrev pub GoesOnFrom : Scraped → Tracking → Following → List Event → Type 0
GoesOnFrom target t s events = StandsFor target t s events ⊎ StandsAgain target t s events

-- a further moment fits behind the last one
abbrev pub HasNextMoment : Option ℕ → Type 0
HasNextMoment None = ⊤
HasNextMoment (Some moment) = moment < 2 ^ 64 - 1

-- from all events from which the state goes on: the tree is that of the event, and the state that follows stands for one event more
abbrev pub Steps : Following → Event → Request → Following → Type 0
Steps before e request after = (target : Scraped) (t : Tracking) (earlier : List Event) → GoesOnFrom target t before earlier → HasDistinctKeys (page_of_outcome e.outcome)
    → (request ≡ request_after target t earlier e) × StandsFor target t after (e ∷ earlier)

-- the tree of a first event is that of a target without a past
abbrev pub IsFirstTree : {E : Type 0} → Following → Event → Result Request E → Type 0
IsFirstTree before e result = before.moment ≡ None → IfOk result (λ request. request ≡ event_request before.target (moment_after None e.reading) e.outcome)

-- what a state shows
abbrev pub shown_by : Following → Shown
shown_by s = record { job = s.target.job; instance = s.target.instance; moment = s.moment; page = s.page }

-- what the state that parts give shows: no page, and the moment of the last event
abbrev pub shown_again : Scraped → Option ℕ → Shown
shown_again target moment = record { job = target.job; instance = target.instance; moment = moment; page = empty_page }

-- for all events for which the state stands: what it shows is what they come to
abbrev pub ShowsLatest : Following → Shown → Type 0
ShowsLatest s shown = (target : Scraped) (t : Tracking) (events : List Event) → StandsFor target t s events → shown ≡ latest_shown target events
