-- What a run over the wires of a world comes to: what is posted for a target is a function of its own talks alone.
-- The bridge's own.
use Rattle.std.specs.Prelude.{◌≡◌, ◌⊎◌, ℕ, ◌+◌, ◌<◌, Bool, true, false, List, [], ◌∷◌, length, Option, Some, IfSome, ⊤}
use Rattle.page_model.specs.declared.event.Event.{Event}
use Rattle.bridge_ports.specs.declared.talk.Talk.{Talk}
use Rattle.bridge_ports.specs.Targets.{Scraped}
use Rattle.bridge_ports.specs.Talks.{Plan, WireState}
use Rattle.bridge_ports.specs.Worlds.{IsHome}
use Rattle.bridge_ports.specs.Outside.{SeenPair, Outside, with_pairs}
use Rattle.otlp_sender.specs.declared.posted.Posted.{Posted}
use Rattle.series_table.specs.Talking.{Followed}
use Rattle.series_table.specs.HttpTalks.{talking}
use Rattle.series_table.specs.declared.counts.Counts.{Counts}
use Rattle.series_table.specs.Records.{talks_of, further_talks, BodiesOf}
use Rattle.series_table.specs.Counting.{visit_counts}
use Rattle.bridge_config.specs.declared.config.Config.{Config}
use Rattle.run_report.specs.declared.target_end.TargetEnd.{TargetEnd}

-- a target of a configuration as it is visited: over wires of these plans
abbrev pub config_followed : Config → Option Plan → Option Plan → Scraped → Followed
config_followed c scrape_plan post_plan t = record { target = t; to = c.collector; settings = c.settings; scrape_plan = scrape_plan; post_plan = post_plan }

-- the numbers of a target are those of its talks: these tell a history, the bodies that were posted are the texts of its events, in order, and the numbers count both; where the target was halted, one scrape talk may be more
pub record AreCountsOf (f : Followed) (halted : Bool) (scrapes posts : List Talk) (counts : Counts) : Type 0 where
  pub history : List Event
  pub posted : List Posted
  pub bodies : BodiesOf talking f (further_talks halted) scrapes posts history posted
  pub counted : counts ≡ visit_counts f history posted

-- each visit posted one body, which was accepted, refused or given up; this holds over wires that keep nothing too
abbrev pub HaveFates : Counts → Type 0
HaveFates counts = counts.accepted + counts.refused + counts.given_up ≡ counts.visits

-- how a target of a configuration ended, over these wires: its numbers are those of their talks, where both tell them; each body that was posted has its fate; visits are missing exactly where it was halted
pub record IsEndOf (c : Config) (t : Scraped) (scrape post : WireState) (end : TargetEnd) : Type 0 where
  pub job : end.job ≡ t.job
  pub instance : end.instance ≡ t.instance
  pub counted : IfSome (talks_of scrape) (λ scrapes. IfSome (talks_of post) (λ posts. AreCountsOf (config_followed c scrape.plan post.plan t) end.halted scrapes posts end.counts))
  pub fates : HaveFates end.counts
  pub all : end.halted ≡ false → end.counts.visits ≡ c.rounds
  pub some : end.halted ≡ true → end.counts.visits < c.rounds

-- a pair that was at home came back with the plans that it went out with: a wire that told its plan tells it, and no other does
pub record KeepsPlans (was : Option SeenPair) (scrape post : WireState) : Type 0 where
  pub went_out : SeenPair
  pub was_home : was ≡ Some went_out
  pub scrape_plan : scrape.plan ≡ went_out.0.plan
  pub post_plan : post.plan ≡ went_out.1.plan

-- the pair of the target of a number, which was at home before, is there again, each wire in its place; it was handed out with the target's address and the collector's, and this is what it came to
pub record IsEndAtHome (c : Config) (before outside : Outside) (number : ℕ) (t : Scraped) (end : TargetEnd) : Type 0 where
  pub scrape : WireState
  pub post : WireState
  pub home : outside.home number ≡ Some (scrape, post)
  pub scrape_home : IsHome number false scrape
  pub post_home : IsHome number true post
  pub plans : KeepsPlans (before.home number) scrape post
  pub given : outside.given number ≡ Some (record { scrape = t.address; post = c.collector })
  pub end_is : IsEndOf c t scrape post end

-- the same of each target, in order; the first has this number
abbrev pub AreEndsAtHome : Config → Outside → Outside → ℕ → List Scraped → List TargetEnd → Type 0
AreEndsAtHome c before outside number [] [] = ⊤
AreEndsAtHome c before outside number (t ∷ ts) (e ∷ ends) = IsEndAtHome c before outside number t e × AreEndsAtHome c before outside (number + 1) ts ends
AreEndsAtHome c before outside number _ _ = ⊥

-- what is not a pair of these targets is as it was
pub record KeepsRest (targets : ℕ) (before after : Outside) : Type 0 where
  pub but_pairs : after ≡ with_pairs after.home after.given before
  pub homes : (n : ℕ) → (n ≡ 0) ⊎ (targets < n) → after.home n ≡ before.home n
  pub addresses : (n : ℕ) → (n ≡ 0) ⊎ (targets < n) → after.given n ≡ before.given n

-- a run of a configuration's targets over the wires of a world: one end for each target, in order, whose pair came home; nothing else of the world was touched
pub record IsRunEnd (c : Config) (before after : Outside) (ends : List TargetEnd) : Type 0 where
  pub ends_are : AreEndsAtHome c before after 1 c.targets ends
  pub rest : KeepsRest (length c.targets) before after

-- no wire was used, and each is where it was; only which addresses pairs were handed out with may have changed
pub record IsNotBegun (c : Config) (before after : Outside) : Type 0 where
  pub homes : (n : ℕ) → after.home n ≡ before.home n
  pub rest : KeepsRest (length c.targets) before after
