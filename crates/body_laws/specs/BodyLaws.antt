-- Laws of the bodies that are posted for a target. Each is proved, and a call of the crate stands for it.
-- OTLP 1.x, "DataPointFlags" (no recorded value); OTLP/HTTP, "OTLP/HTTP Response"; "Prometheus and OpenMetrics Compatibility", "Resource Attributes" and "Instrumentation Scope".
use Rattle.std.specs.Prelude.{◌≡◌, ◌↔◌, ℕ, List, [], ◌∷◌, map, ⊤}
use Rattle.page_model.specs.declared.event.Event.{Event}
use Rattle.bridge_ports.specs.declared.talk.Talk.{Talk}
use Rattle.otlp_sender.specs.declared.posted.Try.{Try}
use Rattle.otlp_sender.specs.declared.posted.Posted.{Posted}
use Rattle.otlp_sender.specs.Posting.{posted_of, ArePosted}
use Rattle.series_table.specs.Talking.{Followed}
use Rattle.series_table.specs.HttpTalks.{talking}
use Rattle.series_table.specs.Bodies.{CameOfTexts}
use Rattle.series_table.specs.Emission.{tracking_of}
use Rattle.series_table.specs.Records.{Kept, BodiesOf, WhereTold, PostsWhatItsTalksTell, further_talks}
use Rattle.point_laws.specs.MarkerLaws.{EventMarksTheGone}

-- ---- series that are gone

-- the tree of each of these events marks the series that are gone: its points without a value are those of the series that the event before had, without times of their own, and this one lacks,
-- each once, in the scope that it names; where the attributes of the target change, those of all series that the event before had, under the attributes that they had
abbrev pub AllMarkTheGone : Followed → List Event → Type 0
AllMarkTheGone f [] = ⊤
AllMarkTheGone f (e ∷ earlier) = EventMarksTheGone f.target (tracking_of f) earlier e × AllMarkTheGone f earlier

-- so do the trees whose texts were posted, whatever the talks were
abbrev pub BodiesMarkTheGone : Type 0
BodiesMarkTheGone = (f : Followed) (more : ℕ) (scrapes posts : List Talk) (events : List Event) (ps : List Posted) → BodiesOf talking f more scrapes posts events ps → AllMarkTheGone f events

-- the bodies of a track with what they mark
abbrev pub PostsMarkTheGone : Kept → Type 0
PostsMarkTheGone k = WhereTold k (λ scrapes posts. (events : List Event) × (ps : List Posted) × BodiesOf talking k.followed (further_talks k.halted) scrapes posts events ps × AllMarkTheGone k.followed events)

-- where the sentence on one target holds, it holds with what its bodies mark
abbrev pub TracksMarkTheGone : Type 0
TracksMarkTheGone = (k : Kept) → PostsWhatItsTalksTell talking k → PostsMarkTheGone k

-- ---- tries

-- the talks are the tries of the texts, and what came of each is told by its last try
abbrev pub ArePostedSo : ℕ → List (List ℕ) → List Talk → List Posted → Type 0
ArePostedSo most texts talks ps = (lasts : List Try) × ArePosted most texts talks lasts × (ps ≡ map posted_of lasts)

-- talks come of texts just where they are the tries of these, in order
abbrev pub TriesComeOfTexts : Type 0
TriesComeOfTexts = (most : ℕ) (texts : List (List ℕ)) (talks : List Talk) (ps : List Posted) → CameOfTexts talking most texts talks ps ↔ ArePostedSo most texts talks ps
