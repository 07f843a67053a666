-- What a visit makes before its posts.
-- The bridge's own.
use Rattle.std.specs.Prelude.{◌≡◌, ◌⊎◌, ℕ, ◌+◌, ◌*◌, List, ◌∷◌, ◌++◌, length, Option, Some, None, Result, Ok, Err}
use Rattle.page_model.specs.declared.event.Event.{Event}
use Rattle.page_model.specs.declared.event.Shown.{Shown}
use Rattle.page_model.specs.Presence.{page_of_outcome}
use Rattle.start_times.specs.Starts.{Tracking}
use Rattle.target_core.specs.Events.{request_after, latest_shown}
use Rattle.target_core.specs.States.{Following, StandsFor}
use Rattle.otlp_tree.specs.declared.tree.Request.{Request}
use Rattle.otlp_json.specs.Texts.{request_text}
use Rattle.http_talk.specs.Requests.{post_request}
use Rattle.bridge_ports.specs.Targets.{Scraped}
use Rattle.bridge_ports.specs.declared.talk.Address.{Address}
use Rattle.bridge_ports.specs.Talks.{WireState, made_ready}
use Rattle.scrape_client.specs.Scraping.{IsScrape, IsCutShort}
use Rattle.series_table.specs.declared.aim.Aim.{Aim}
use Rattle.series_table.specs.declared.making.Taken.{Taken}
use Rattle.series_table.specs.declared.making.Prepared.{Prepared}
use Rattle.series_table.specs.declared.post_text.PostText.{PostText}
use Rattle.series_table.specs.declared.point_counts.PointCounts.{PointCounts}
use Rattle.series_table.specs.Counting.{over_metrics, valued_in, unvalued_in, as_count, has_failed}
use Rattle.series_table.specs.Records.{IsScrapedWithin}

-- when a visit is due before which so many were made: the first at once, the others in even steps from the reading of the first
abbrev pub due_after : Option ℕ → ℕ → ℕ → ℕ
due_after None visits interval = 0
due_after (Some first) visits interval = as_count (first + visits * interval)

-- the points of a tree, counted
abbrev pub point_counts : Request → PointCounts
point_counts tree = record { valued = as_count (over_metrics valued_in tree); unvalued = as_count (over_metrics unvalued_in tree) }

-- a request of two parts, whole
abbrev pub whole_request : PostText → List ℕ
whole_request t = t.head.items ++ t.body.items

-- one scrape was made, and the state took its event
pub record TookEvent (aim : Aim) (old new : WireState) (before after : Following) (taken : Taken) (event : Event) : Type 0 where
  pub scrape : IsScrape aim.settings.limit aim.settings.max_page aim.target.address old new event
  pub page : IsScrapedWithin aim.settings.limit (page_of_outcome event.outcome)
  pub failed : taken.failed ≡ has_failed event
  pub steps : (t : Tracking) (earlier : List Event) → StandsFor aim.target t before earlier
      → (taken.tree ≡ request_after aim.target t earlier event) × StandsFor aim.target t after (event ∷ earlier)

-- a state took no event, or one whose page is within the limit
abbrev pub TookAtMostOne : Aim → Following → Following → Type 0
TookAtMostOne aim before after = (after ≡ before) ⊎ ((event : Event) × IsScrapedWithin aim.settings.limit (page_of_outcome event.outcome)
    × ((t : Tracking) (earlier : List Event) → StandsFor aim.target t before earlier → StandsFor aim.target t after (event ∷ earlier)))

-- what comes of a scrape and of the step behind it
abbrev pub TakesEvent : {E : Type 0} → Aim → WireState → WireState → Following → Following → Result Taken E → Type 0
TakesEvent aim old new before after (Ok taken) = (event : Event) × TookEvent aim old new before after taken event
TakesEvent aim old new before after (Err e) = IsCutShort old new × (after ≡ before)

-- two pages are what a state shows
abbrev pub ShowsTwice : Following → Shown × Shown → Type 0
ShowsTwice s pages = (pages.1 ≡ pages.0) × ((target : Scraped) (t : Tracking) (events : List Event) → StandsFor target t s events → pages.0 ≡ latest_shown target events)

-- what was made of an event that a state took
pub record IsOfTaken (to : Address) (taken : Taken) (after : Following) (p : Prepared) : Type 0 where
  pub failed : p.failed ≡ taken.failed
  pub points : p.points ≡ point_counts taken.tree
  pub text : whole_request p.text ≡ post_request to (request_text taken.tree)
  pub body : p.text.body.items ≡ request_text taken.tree
  pub shows : ShowsTwice after (p.shown, p.second)

-- what was made of an event behind these earlier ones
pub record IsMade (aim : Aim) (t : Tracking) (earlier : List Event) (event : Event) (after : Following) (p : Prepared) : Type 0 where
  pub stands : StandsFor aim.target t after (event ∷ earlier)
  pub text : whole_request p.text ≡ post_request aim.to (request_text (request_after aim.target t earlier event))
  pub body : p.text.body.items ≡ request_text (request_after aim.target t earlier event)
  pub shown : p.shown ≡ latest_shown aim.target (event ∷ earlier)
  pub points : p.points ≡ point_counts (request_after aim.target t earlier event)

-- one scrape was made, all that its event needs was made, and there is room for its posts
pub record IsPrepared (aim : Aim) (old new post_old post_new : WireState) (before after : Following) (p : Prepared) (event : Event) : Type 0 where
  pub scrape : IsScrape aim.settings.limit aim.settings.max_page aim.target.address old new event
  pub page : IsScrapedWithin aim.settings.limit (page_of_outcome event.outcome)
  pub failed : p.failed ≡ has_failed event
  pub second : p.second ≡ p.shown
  pub room : post_new ≡ made_ready aim.settings.tries (length (whole_request p.text)) post_old
  pub made : (t : Tracking) (earlier : List Event) → StandsFor aim.target t before earlier → IsMade aim t earlier event after p

-- what comes of all that a visit does before its posts: nothing was posted
abbrev pub Prepares : {E : Type 0} → Aim → WireState → WireState → WireState → WireState → Following → Following → Result Prepared E → Type 0
Prepares aim old new post_old post_new before after (Ok p) = (event : Event) × IsPrepared aim old new post_old post_new before after p event
Prepares aim old new post_old post_new before after (Err e) = IsCutShort old new × (post_new ≡ post_old) × TookAtMostOne aim before after
