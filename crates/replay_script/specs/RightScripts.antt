-- What every script keeps: the conditions of those who follow its targets.
-- The bridge's own.
use Rattle.std.specs.Prelude.{◌≡◌, ◌≢◌, ◌⊎◌, ℕ, ◌*◌, ◌≤◌, IsTrue, List, [], length, map}
use Rattle.std.specs.List.{AllByRecursion, IsDistinct}
use Rattle.std.specs.Int.{is_in_range}
use Rattle.plain_words.specs.Places.{is_visible_word, is_port}
use Rattle.bridge_ports.specs.Targets.{IsScraped, have_same_names, most_targets}
use Rattle.bridge_ports.specs.declared.talk.End.TheVariants.{ConnectFailed, WriteFailed, Left}
use Rattle.bridge_ports.specs.declared.talk.MemoryReply.{MemoryReply}
use Rattle.replay_script.specs.declared.header.Header.{Header}
use Rattle.replay_script.specs.declared.script.ScriptTarget.{ScriptTarget}
use Rattle.replay_script.specs.declared.script.Script.{Script}
use Rattle.replay_script.specs.Scripts.{IsScript}

-- the numbers of a header are in their ranges
pub record IsRightHeader (h : Header) : Type 0 where
  pub keep : IsTrue (is_in_range 0 4 h.keep)
  pub tries : IsTrue (is_in_range 1 8 h.tries)
  pub limit : IsTrue (is_in_range 1 200000 h.limit)
  pub max_page : IsTrue (is_in_range 1024 67108864 h.max_page)
  pub cut : IsTrue (is_in_range 1 65536 h.cut)
  pub rounds : IsTrue (is_in_range 1 1000000 h.rounds)

-- a reply ends by itself: no script says that the bridge leaves it
abbrev pub IsOver : MemoryReply → Type 0
IsOver reply = reply.end ≢ Left

-- a reply of a script: it ends by itself, and where there is no connection or nothing can be written, it has no bytes
pub record IsRightReply (reply : MemoryReply) : Type 0 where
  pub over : IsOver reply
  pub silent : (reply.end ≡ ConnectFailed) ⊎ (reply.end ≡ WriteFailed) → reply.got ≡ []

-- a target of a script: what its type keeps, its words, that its times of pages count just where the header says so, one scrape for each round, no more posts than `rounds` times `tries`, and right replies to both
pub record IsRightTarget (h : Header) (t : ScriptTarget) : Type 0 where
  pub scraped : IsScraped t.target
  pub job : IsTrue (is_visible_word 256 t.target.job)
  pub host : IsTrue (is_visible_word 256 t.target.address.host)
  pub port : IsTrue (is_port t.target.address.port)
  pub path : IsTrue (is_visible_word 256 t.target.address.path)
  pub honor : t.target.honor ≡ h.honor
  pub scrapes : length t.scrapes ≡ h.rounds
  pub replies : AllByRecursion IsRightReply t.scrapes
  pub posts : length t.posts ≤ h.rounds * h.tries
  pub post_replies : AllByRecursion IsRightReply t.posts

-- a right script: some targets, but not too many, no two with one job and one instance
pub record IsRightScript (s : Script) : Type 0 where
  pub header : IsRightHeader s.header
  pub some_target : 1 ≤ length s.targets
  pub few_targets : length s.targets ≤ most_targets
  pub targets : AllByRecursion (IsRightTarget s.header) s.targets
  pub names : IsDistinct have_same_names (map (λ (t : ScriptTarget). t.target) s.targets)

-- every script is right
abbrev pub ScriptsAreRight : Type 0
ScriptsAreRight = (bytes : List ℕ) (script : Script) → IsScript bytes script → IsRightScript script
