-- What the steps from a document with right keys to a configuration answer.
-- The bridge's own.
use Rattle.std.specs.Prelude.{◌≡◌, ℕ, ◌*◌, ◌^◌, Bool, true, List, map, Option, None, option_map, Result, MatchResult, Vec}
use Rattle.std.specs.List.{AllByRecursion}
use Rattle.std.specs.declared.alloc.Global.{Global}
use Rattle.label_sets.specs.Lists.{first_some}
use Rattle.toml.specs.Data.{Members}
use Rattle.bridge_ports.specs.declared.talk.Address as addresses
use Rattle.bridge_ports.specs.Targets.{Scraped}
use Rattle.bridge_ports.specs.declared.settings.Settings.{Settings}
use Rattle.bridge_config.specs.declared.config.Config.{Config}
use Rattle.bridge_config.specs.declared.fault.ConfigFault.{ConfigFault}
use Rattle.bridge_config.specs.declared.fault.ConfigFault.TheVariants.{Address}
use Rattle.bridge_config.specs.ConfigKeys.{collector_key, keep_key, tries_key, max_page_key, sample_limit_key, interval_key, job_word}
use Rattle.bridge_config.specs.Configurations.{key_number, text_at, table_target, collector_in, config_of}
use Rattle.bridge_config.specs.KeyFaults.{is_job}
use Rattle.bridge_config.specs.ConfigFaults.{wrong_address, wrong_target, address_fault, IsAnswered}

-- how targets are visited
abbrev pub settings_of : Members → Settings
settings_of document = record {
  keep = key_number document keep_key;
  tries = key_number document tries_key;
  limit = key_number document sample_limit_key;
  max_page = key_number document max_page_key;
  interval = key_number document interval_key * 10 ^ 6;
}

-- the table has a job within its length
abbrev pub HasJob : ℕ × Members → Type 0
HasJob found = is_job (text_at found.1 job_word) ≡ true

-- each table has one
abbrev pub HaveJobs : List (ℕ × Members) → Type 0
HaveJobs tables = AllByRecursion HasJob tables

-- a value is made where no URL is wrong; else the first that is wrong is answered, or want of memory
abbrev pub MakesOr : {T U : Type 0} → (T → U) → Option ℕ → U → Result T ConfigFault → Type 0
MakesOr view wrong value result = MatchResult result (λ made. (wrong ≡ None) × (view made ≡ value)) (IsAnswered (option_map Address wrong))

-- where bodies are posted
abbrev pub MakesCollector : Members → Result addresses.Address ConfigFault → Type 0
MakesCollector document = MakesOr (λ made. made) (wrong_address (0, text_at document collector_key.word)) (collector_in document)

-- the target of a table, whose times of pages count or don't
abbrev pub MakesTarget : Bool → ℕ × Members → Result Scraped ConfigFault → Type 0
MakesTarget honor found = MakesOr (λ made. made) (wrong_target found) (table_target honor found)

-- the targets of some tables
abbrev pub MakesTargets : Bool → List (ℕ × Members) → Result (Vec Scraped Global) ConfigFault → Type 0
MakesTargets honor tables = MakesOr (λ (made : Vec Scraped Global). made.items) (first_some wrong_target tables) (map (table_target honor) tables)

-- the configuration of a document
abbrev pub MakesConfig : Members → Result Config ConfigFault → Type 0
MakesConfig document result = MatchResult result (λ made. (address_fault document ≡ None) × (made ≡ config_of document)) (IsAnswered (address_fault document))
