-- The script that a number stands for: its targets, and what their wires answer. The bridge's own.
use Rattle.std.specs.Prelude.{◌≡◌, ℕ, ◌+◌, ◌*◌, ◌%◌, ◌^◌, ◌<◌, ◌≤◌, Bool, false, ◌==◌, List, [], ◌++◌, map, codes, if◌then◌else◌}
use Rattle.std.specs.List.{AllByRecursion, range_with_len}
use Rattle.std.specs.Fmt.{decimal}
use Rattle.page_model.specs.declared.format.Format.TheVariants.{OpenMetrics}
use Rattle.bridge_ports.specs.declared.talk.MemoryReply.{MemoryReply}
use Rattle.bridge_ports.specs.Targets.{Scraped}
use Rattle.replay_script.specs.declared.ending.Ending.TheVariants.{ConnectFails}
use Rattle.replay_script.specs.declared.header.Header.{Header}
use Rattle.replay_script.specs.declared.script.ScriptTarget.{ScriptTarget}
use Rattle.replay_script.specs.declared.script.Script.{Script}
use Rattle.replay_script.specs.ScriptParts.{TargetLine}
use Rattle.replay_script.specs.ScriptContents.{page_reply, raw_reply, line_target}
use Rattle.load_pages.specs.GeneratedPages.{generated_text}

-- ---- what may be asked for

-- the greatest number that stands for a load
abbrev pub most_load_number : ℕ
most_load_number = 1000000

-- the most targets of a load
abbrev pub most_load_targets : ℕ
most_load_targets = 64

-- the most rounds of a load
abbrev pub most_load_rounds : ℕ
most_load_rounds = 1000

-- the most visits of a load, over all targets
abbrev pub most_load_visits : ℕ
most_load_visits = 20000

-- such a number, so many targets and so many rounds are a load
pub record IsLoad (number targets rounds : ℕ) : Type 0 where
  pub small : number ≤ most_load_number
  pub some_targets : 1 ≤ targets
  pub few_targets : targets ≤ most_load_targets
  pub some_rounds : 1 ≤ rounds
  pub few_rounds : rounds ≤ most_load_rounds
  pub few_visits : targets * rounds ≤ most_load_visits

-- a visit of a load: of the target of a number from 1 on, in a round from 0 on
pub record IsLoadVisit (number target round : ℕ) : Type 0 where
  pub small : number ≤ most_load_number
  pub few_targets : target ≤ most_load_targets
  pub few_rounds : round < most_load_rounds

-- ---- the script

-- the scrape of a target fails in a round: one in sixteen does
abbrev pub fails_to_connect : (number target round : ℕ) → Bool
fails_to_connect number target round = (number + 3 * target + 5 * round) % 16 == 0

-- when a round is scraped: a second behind the one before
abbrev pub round_time : ℕ → ℕ
round_time round = (round + 1) * 10 ^ 9

-- what the wire of a target's scrapes answers in a round
unfoldable pub generated_reply : (number target round : ℕ) → MemoryReply
generated_reply number target round =
    if fails_to_connect number target round then raw_reply (round_time round) ConnectFails []
    else page_reply (round_time round) OpenMetrics (generated_text number target round)

-- its replies in the first rounds
abbrev pub generated_replies : (number target rounds : ℕ) → List MemoryReply
generated_replies number target rounds = map (generated_reply number target) (range_with_len 0 rounds)

-- the words of a target
unfoldable pub generated_line : ℕ → TargetLine
generated_line target = record { job = codes "load"; host = codes "t" ++ decimal target; port = 80; path = codes "/metrics" }

-- what is scraped of a target, whose times of pages don't count
abbrev pub generated_scraped : ℕ → Scraped
generated_scraped target = line_target false (generated_line target)

-- a target, and what its wires answer: all its posts get the default reply
unfoldable pub generated_target : (number rounds target : ℕ) → ScriptTarget
generated_target number rounds target = record { target = generated_scraped target; scrapes = generated_replies number target rounds; posts = [] }

-- the first targets
abbrev pub generated_targets : (number rounds targets : ℕ) → List ScriptTarget
generated_targets number rounds targets = map (generated_target number rounds) (range_with_len 1 targets)

-- the header: what a script has where it says nothing, but for the rounds
unfoldable pub load_header : ℕ → Header
load_header rounds = record { keep = 2; tries = 3; limit = 20000; max_page = 16777216; cut = 4096; honor = false; rounds = rounds }

-- the script that a number, so many targets and so many rounds stand for
unfoldable pub generated_script : (number targets rounds : ℕ) → Script
generated_script number targets rounds = record { header = load_header rounds; targets = generated_targets number rounds targets }

-- no reply is planned for a post of the target, so each gets the default one
abbrev pub TakesBodies : ScriptTarget → Type 0
TakesBodies t = t.posts ≡ []

-- so it is with each target
abbrev pub TakesAllBodies : Script → Type 0
TakesAllBodies s = AllByRecursion TakesBodies s.targets
