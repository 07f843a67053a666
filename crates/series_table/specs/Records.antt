-- What the track of a target keeps, and what one visit adds.
-- The bridge's own.
use Rattle.std.specs.Prelude.{◌≡◌, ℕ, ◌+◌, ◌*◌, ◌≤◌, Bool, true, false, List, [], ◌∷◌, ◌++◌, length, Option, Some, None, is_some, option_map, IfSome, ⊤, if◌then◌else◌}
use Rattle.page_model.specs.declared.event.Event.{Event}
use Rattle.page_model.specs.declared.event.Shown.{Shown}
use Rattle.page_model.specs.declared.page.Page.{Page}
use Rattle.page_model.specs.Pages.{IsScrapedPage}
use Rattle.page_model.specs.Presence.{page_of_outcome}
use Rattle.target_core.specs.Events.{request_after, latest_shown}
use Rattle.otlp_json.specs.Texts.{request_text}
use Rattle.target_core.specs.States.{Following, StandsFor}
use Rattle.series_table.specs.declared.counts.Counts.{Counts}
use Rattle.bridge_ports.specs.declared.talk.Talk.{Talk}
use Rattle.otlp_sender.specs.declared.posted.Posted.{Posted}
use Rattle.series_table.specs.declared.visited.Visited.{Visited}
use Rattle.series_table.specs.declared.visited.Visited.TheVariants.{Done, Halted}
use Rattle.bridge_ports.specs.declared.talk.Address.{Address}
use Rattle.bridge_ports.specs.declared.settings.Settings.{Settings}
use Rattle.bridge_ports.specs.Targets.{Scraped}
use Rattle.bridge_ports.specs.Talks.{Plan, ToldTalks, WireState}
use Rattle.bridge_ports.specs.declared.talk.Stage.TheVariants.{Idle}
use Rattle.series_table.specs.Talking.{Talking, Followed, AreInRange}
use Rattle.series_table.specs.Bodies.{CameOfText, CameOfTexts}
use Rattle.series_table.specs.Emission.{tracking_of, IsEventOf, IsHistoryOf, post_text_after, post_texts}
use Rattle.series_table.specs.Counting.{visit_counts}

-- the finished talks of a wire, the last first, where it tells them
abbrev pub talks_of : WireState → Option (List Talk)
talks_of wire = option_map (λ (t : ToldTalks). t.talks) wire.told

-- a track as its contracts see it
pub record Kept : Type 0 where
  pub followed : Followed
  pub scrape : WireState
  pub post : WireState
  pub following : Following
  pub shown : Shown
  pub second : Option Shown
  pub counts : Counts
  pub halted : Bool

-- ---- the sentence on one target

-- of these scrape talks some tell the events that were counted, and no more than so many follow them
pub record TellsEvents (w : Talking) (f : Followed) (more : ℕ) (scrapes : List Talk) (events : List Event) : Type 0 where
  pub counted : List Talk
  pub further : List Talk
  pub talks_are : scrapes ≡ further ++ counted
  pub few : length further ≤ more
  pub history : IsHistoryOf w f counted events

-- what was posted is, in order, the texts of the events that the scrape talks tell, a function of these talks alone
pub record BodiesOf (w : Talking) (f : Followed) (more : ℕ) (scrapes posts : List Talk) (events : List Event) (ps : List Posted) : Type 0 where
  pub tells : TellsEvents w f more scrapes events
  pub in_order : CameOfTexts w f.settings.tries (post_texts w f events) posts ps

-- so many talks may follow those that were counted: one where the target is halted
abbrev pub further_talks : Bool → ℕ
further_talks halted = if halted then 1 else 0

-- where both wires tell, this holds of what they tell
abbrev pub WhereTold : Kept → (List Talk → List Talk → Type 0) → Type 0
WhereTold k P = (scrapes posts : List Talk) → talks_of k.scrape ≡ Some scrapes → talks_of k.post ≡ Some posts → P scrapes posts

-- the bodies posted for the target are, in order, the OTLP JSON texts of a stated function of that target's own talks alone
abbrev pub PostsWhatItsTalksTell : Talking → Kept → Type 0
PostsWhatItsTalksTell w k = WhereTold k (λ scrapes posts. (events : List Event) × (ps : List Posted) × BodiesOf w k.followed (further_talks k.halted) scrapes posts events ps)

-- ---- pages

-- a page of a target's text, with at most so many samples
pub record IsScrapedWithin (most : ℕ) (page : Page) : Type 0 where
  pub scraped : IsScrapedPage page
  pub few : page.samples ≤ most

-- the pages of these events are of a target's text, within its limit
abbrev pub ArePagesWithin : Followed → List Event → Type 0
ArePagesWithin f [] = ⊤
ArePagesWithin f (e ∷ earlier) = IsScrapedWithin f.settings.limit (page_of_outcome e.outcome) × ArePagesWithin f earlier

-- a page that a target may show
pub record IsShownOf (f : Followed) (s : Shown) : Type 0 where
  pub job : s.job ≡ f.target.job
  pub instance : s.instance ≡ f.target.instance
  pub scraped : IsScrapedWithin f.settings.limit s.page

-- a shown page that may be absent
abbrev pub MayShow : Followed → Option Shown → Type 0
MayShow f None = ⊤
MayShow f (Some s) = IsShownOf f s

-- ---- tracks

-- what a track keeps of the events that were counted and of what came of their bodies: where both wires tell, they are those of the talks
pub record HasRecord (w : Talking) (k : Kept) : Type 0 where
  pub events : List Event
  pub posted : List Posted
  pub as_many : length posted ≡ length events
  pub pages : ArePagesWithin k.followed events
  pub counts : k.counts ≡ visit_counts k.followed events posted
  pub shown : k.shown ≡ latest_shown k.followed.target events
  pub stands : k.halted ≡ false → StandsFor k.followed.target (tracking_of k.followed) k.following events
  pub bodies : WhereTold k (λ scrapes posts. BodiesOf w k.followed (further_talks k.halted) scrapes posts events posted)

-- a wire of a track: no talk is under way, and it has the plan with which the track was made
pub record IsFree (plan : Option Plan) (wire : WireState) : Type 0 where
  pub free : wire.stage ≡ Idle
  pub plan_is : wire.plan ≡ plan

-- the most rows that are kept of a target's series: one for each sample that a page may have, over `keep + 1` scrapes
abbrev pub most_rows : Settings → ℕ
most_rows s = (s.keep + 1) * s.limit

-- the facts of every track, whether its wires tell or not
pub record IsTrack (w : Talking) (k : Kept) : Type 0 where
  pub ranges : AreInRange k.followed.settings
  pub scrape_wire : IsFree k.followed.scrape_plan k.scrape
  pub post_wire : IsFree k.followed.post_plan k.post
  pub history : HasRecord w k
  pub few_rows : length k.following.tracked.rows ≤ most_rows k.followed.settings
  pub shows : IsShownOf k.followed k.shown
  pub second_shows : MayShow k.followed k.second
  pub unvisited : k.counts.visits ≡ 0 → k.second ≡ None

-- ---- visits

-- the most visits of a track
abbrev pub most_visits : ℕ
most_visits = 1000000

-- what no visit changes
pub record IsSameTrack (before after : Kept) : Type 0 where
  pub followed : after.followed ≡ before.followed
  pub scrape_place : after.scrape.place ≡ before.scrape.place
  pub post_place : after.post.place ≡ before.post.place
  pub scrape_tells : is_some (talks_of after.scrape) ≡ is_some (talks_of before.scrape)
  pub post_tells : is_some (talks_of after.post) ≡ is_some (talks_of before.post)

-- one visit more: an event behind those that the scrape talks told, its talk, and the tries of its body; the target then shows its page
pub record IsVisit (w : Talking) (before after : Kept) (scrapes posts new_scrapes new_posts : List Talk) : Type 0 where
  pub earlier : List Event
  pub history : IsHistoryOf w before.followed scrapes earlier
  pub talk : Talk
  pub event : Event
  pub tried : List Talk
  pub came_to : Posted
  pub scraped : new_scrapes ≡ talk ∷ scrapes
  pub posted : new_posts ≡ tried ++ posts
  pub is_event : IsEventOf w before.followed talk event
  pub is_posted : CameOfText w before.followed.settings.tries (post_text_after w before.followed earlier event) tried came_to
  pub shown : after.shown ≡ latest_shown before.followed.target (event ∷ earlier)

-- no visit more: at most one scrape talk, and nothing was posted
pub record IsHalt (more : ℕ) (scrapes posts new_scrapes new_posts : List Talk) : Type 0 where
  pub further : List Talk
  pub scraped : new_scrapes ≡ further ++ scrapes
  pub few : length further ≤ more
  pub posted : new_posts ≡ posts

-- what both wires tell before and after a visit stand in this relation, where they tell
abbrev pub AcrossTold : Kept → Kept → (List Talk → List Talk → List Talk → List Talk → Type 0) → Type 0
AcrossTold before after P = WhereTold before (λ scrapes posts. WhereTold after (λ new_scrapes new_posts. P scrapes posts new_scrapes new_posts))

-- a visit that was made
pub record IsDone (w : Talking) (before after : Kept) : Type 0 where
  pub went : before.halted ≡ false
  pub goes_on : after.halted ≡ false
  pub counted : after.counts.visits ≡ before.counts.visits + 1
  pub second : after.second ≡ Some after.shown
  pub same : IsSameTrack before after
  pub told : AcrossTold before after (IsVisit w before after)

-- a visit that was not made: the track is halted, and shows and counts what it did
pub record IsHalted (before after : Kept) : Type 0 where
  pub halted : after.halted ≡ true
  pub counts : after.counts ≡ before.counts
  pub shown : after.shown ≡ before.shown
  pub second : after.second ≡ before.second
  pub same : IsSameTrack before after
  pub still : before.halted ≡ true → after ≡ before
  pub told : AcrossTold before after (IsHalt (if before.halted then 0 else 1))

-- what a visit does to its track
abbrev pub Visits : Talking → Kept → Kept → Visited → Type 0
Visits w before after Done = IsDone w before after
Visits w before after Halted = IsHalted before after

-- what a visit came to, told by what it gave
abbrev pub visited_as : {A : Type 0} → Option A → Visited
visited_as (Some given) = Done
visited_as None = Halted

-- the body of one visit more, whose scrape came to an event, which its new talk tells where the wire tells: behind all events for which the target's state stood it is the text of this one, and the state then stands for one event more
pub record IsBodyOf (w : Talking) (before after : Kept) (body : List ℕ) : Type 0 where
  pub event : Event
  pub told : (scrapes : List Talk) → talks_of before.scrape ≡ Some scrapes → (talk : Talk) × (talks_of after.scrape ≡ Some (talk ∷ scrapes)) × IsEventOf w before.followed talk event
  pub text : (earlier : List Event) → StandsFor before.followed.target (tracking_of before.followed) before.following earlier
      → (body ≡ request_text (request_after before.followed.target (tracking_of before.followed) earlier event)) × StandsFor before.followed.target (tracking_of before.followed) after.following (event ∷ earlier)

-- a wire that may be given to a track: no talk is under way, and where it tells, it had none
pub record IsFresh (wire : WireState) : Type 0 where
  pub free : wire.stage ≡ Idle
  pub untold : IfSome (talks_of wire) (λ talks. talks ≡ [])

-- a track as it is made of these
pub record IsNew (target : Scraped) (to : Address) (settings : Settings) (scrape post : WireState) (k : Kept) : Type 0 where
  pub followed : k.followed ≡ record { target = target; to = to; settings = settings; scrape_plan = scrape.plan; post_plan = post.plan }
  pub scrape_wire : k.scrape ≡ scrape
  pub post_wire : k.post ≡ post
  pub shown : k.shown ≡ latest_shown target []
  pub second : k.second ≡ None
  pub counts : k.counts ≡ visit_counts k.followed [] []
  pub goes_on : k.halted ≡ false
