-- What stands on the shelf of the world behind `replay` and `load`: the wires of each target, and what their talks tell.
-- The bridge's own.
use Rattle.std.specs.Prelude.{◌≡◌, ◌⊎◌, ℕ, ◌+◌, Bool, true, false, List, [], ◌∷◌, ◌++◌, length, Option, is_some, option_map, ⊤}
use Rattle.page_model.specs.declared.event.Event.{Event}
use Rattle.bridge_ports.specs.declared.memory_world.Shelved.{Shelved}
use Rattle.bridge_ports.specs.declared.talk.End.TheVariants.{Left}
use Rattle.bridge_ports.specs.declared.talk.MemoryReply.{MemoryReply}
use Rattle.bridge_ports.specs.declared.talk.Stage.TheVariants.{Idle}
use Rattle.bridge_ports.specs.declared.talk.Talk.{Talk}
use Rattle.bridge_ports.specs.Talks.{Plan, reply_of}
use Rattle.bridge_ports.specs.Plans.{seen_of}
use Rattle.bridge_ports.specs.Worlds.{ShelvedPair, IsHome}
use Rattle.bridge_ports.specs.Outside.{Outside, with_world, with_shelved_pair}
use Rattle.otlp_sender.specs.declared.posted.Posted.{Posted}
use Rattle.series_table.specs.HttpTalks.{talking}
use Rattle.series_table.specs.Records.{BodiesOf}
use Rattle.replay_script.specs.declared.header.Header.{Header}
use Rattle.replay_script.specs.declared.script.ScriptTarget.{ScriptTarget}
use Rattle.replay_script.specs.declared.script.Script.{Script}
use Rattle.replay_script.specs.WirePlans.{scrape_plan, post_plan}
use Rattle.script_commands.specs.Replays.{AreEvents}
use Rattle.script_commands.specs.Rounds.{script_followed}

-- ---- talks

-- a talk is one that a reply gives: its time, a front of its bytes, and all of them with its end where the talk was not left
pub record IsTalkOfReply (reply : MemoryReply) (talk : Talk) : Type 0 where
  pub rest : List ℕ
  pub time : talk.at ≡ reply.at
  pub bytes : reply.got ≡ talk.got ++ rest
  pub ends : (talk.end ≡ Left) ⊎ ((talk.end ≡ reply.end) × (rest ≡ []))

-- each of the talks, the last first, is one that the reply of its number gives
abbrev pub AreTalksOfReplies : Plan → List Talk → Type 0
AreTalksOfReplies plan [] = ⊤
AreTalksOfReplies plan (talk ∷ earlier) = IsTalkOfReply (reply_of plan (length earlier)) talk × AreTalksOfReplies plan earlier

-- ---- pairs

-- the wires of a script's target, once it was visited for each round: they are in the places of its number, and have the plans of the target, that of its posts with what is posted kept or not; the talks of its scrapes tell the events that its records come to, and what was posted is, in order, the texts of these events; each talk is of the reply of its number
pub record IsShelvedPair (keeps : Bool) (h : Header) (number : ℕ) (t : ScriptTarget) (pair : ShelvedPair) : Type 0 where
  pub scrape_home : IsHome number false (seen_of pair.scrape)
  pub post_home : IsHome number true (seen_of pair.post)
  pub scrape_by : pair.scrape.plan ≡ scrape_plan h t
  pub post_by : pair.post.plan ≡ post_plan keeps h t
  pub events : List Event
  pub posted : List Posted
  pub are : AreEvents h t.scrapes events
  pub all : length events ≡ length t.scrapes
  pub bodies : BodiesOf talking (script_followed keeps h t) 0 pair.scrape.talks pair.post.talks events posted
  pub scraped : AreTalksOfReplies (scrape_plan h t) pair.scrape.talks
  pub answered : AreTalksOfReplies (post_plan keeps h t) pair.post.talks

-- one pair for each target, in order; the first has this number
abbrev pub AreShelvedPairs : Bool → Header → ℕ → List ScriptTarget → List ShelvedPair → Type 0
AreShelvedPairs keeps h number [] [] = ⊤
AreShelvedPairs keeps h number (t ∷ ts) (pair ∷ pairs) = IsShelvedPair keeps h number t pair × AreShelvedPairs keeps h (number + 1) ts pairs
AreShelvedPairs keeps h number _ _ = ⊥

-- ---- the shelf

-- a shelf, the pair that was handed in last first, once these pairs were handed in, in their order
abbrev pub put_all : List ShelvedPair → List ShelvedPair → List ShelvedPair
put_all [] shelf = shelf
put_all (pair ∷ pairs) shelf = put_all pairs (pair ∷ shelf)

-- the wires of a script's targets were handed in, targets in order, where there is a shelf: then what was posted is kept
pub record IsShelfOf (s : Script) (before after : Option (List ShelvedPair)) : Type 0 where
  pub pairs : List ShelvedPair
  pub are : AreShelvedPairs (is_some before) s.header 1 s.targets pairs
  pub shelf : after ≡ option_map (put_all pairs) before

-- ---- how a world is left

-- a pair of wires as it is seen on the shelf
abbrev pub shelf_pair : Shelved → ShelvedPair
shelf_pair w = record { scrape = w.scrape; post = w.post }

-- no talk is under way on the wires of a pair
pub record IsFreePair (w : Shelved) : Type 0 where
  pub scrape_free : w.scrape.stage ≡ Idle
  pub post_free : w.post.stage ≡ Idle

-- what is seen of a world once these wires were handed in, in their order
abbrev pub with_shelved : List Shelved → Outside → Outside
with_shelved [] o = o
with_shelved (pair ∷ pairs) o = with_shelved pairs (with_shelved_pair pair.scrape pair.post o)

-- of what is seen of a world, this is on the shelf
abbrev pub with_shelf : Option (List ShelvedPair) → Outside → Outside
with_shelf shelf o = with_world (record o.world { shelf = shelf }) o

-- of what is seen of a world nothing but its shelf changed
abbrev pub KeepsAllButShelf : Outside → Outside → Type 0
KeepsAllButShelf before after = after ≡ with_shelf after.world.shelf before
