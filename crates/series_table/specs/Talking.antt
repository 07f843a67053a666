-- What the layers below say of talks. All that this crate defines holds for whatever they say.
-- RFC 9112, in the bridge's own profile.
use Rattle.std.specs.Prelude.{ℕ, ◌≤◌, List, Option}
use Rattle.page_model.specs.declared.event.Outcome.{Outcome}
use Rattle.bridge_ports.specs.declared.talk.Address.{Address}
use Rattle.bridge_ports.specs.declared.talk.Talk.{Talk}
use Rattle.otlp_sender.specs.declared.posted.Try.{Try}
use Rattle.bridge_ports.specs.Talks.{Plan}
use Rattle.bridge_ports.specs.Targets.{Scraped}
use Rattle.bridge_ports.specs.declared.settings.Settings.{Settings}

-- the texts of the requests, when a talk is whole where bodies may have so many bytes, what a talk came to, and when talks, the last first, are the tries of one text, with what the last of them came to
pub record Talking : Type 1 where
  pub get_request : Address → List ℕ
  pub post_request : Address → List ℕ → List ℕ
  pub IsWholeTalk : ℕ → List ℕ → Talk → Type 0
  pub HasOutcome : ℕ → ℕ → Talk → Outcome → Type 0
  pub IsPostRun : ℕ → List ℕ → List Talk → Try → Type 0

-- a target as it is visited: what is scraped, where its bodies go, how it is visited, and the plans of its two wires where they tell them
pub record Followed : Type 0 where
  pub target : Scraped
  pub to : Address
  pub settings : Settings
  pub scrape_plan : Option Plan
  pub post_plan : Option Plan

-- settings within their ranges
pub record AreInRange (s : Settings) : Type 0 where
  pub keep : s.keep ≤ 4
  pub tries : (1 ≤ s.tries) × (s.tries ≤ 8)
  pub limit : (1 ≤ s.limit) × (s.limit ≤ 200000)
  pub max_page : (1024 ≤ s.max_page) × (s.max_page ≤ 67108864)
