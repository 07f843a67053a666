-- What every configuration keeps: the conditions of those who follow its targets.
-- The bridge's own.
use Rattle.std.specs.Prelude.{◌≡◌, ◌≢◌, ℕ, ◌*◌, ◌^◌, ◌≤◌, IsTrue, List, length, IfSome, None}
use Rattle.std.specs.List.{AllByRecursion, IsDistinct}
use Rattle.std.specs.Int.{is_in_range}
use Rattle.plain_words.specs.Places.{is_visible_word, is_port}
use Rattle.bridge_ports.specs.declared.talk.Address.{Address}
use Rattle.bridge_ports.specs.Targets.{Scraped, have_same_names, most_host_bytes, most_targets}
use Rattle.bridge_ports.specs.declared.settings.Settings.{Settings}
use Rattle.bridge_config.specs.declared.config.Config.{Config}
use Rattle.toml.specs.Data.{Members}
use Rattle.bridge_config.specs.ConfigKeys.{rounds_key, scrapers_key, keep_key, tries_key, max_page_key, sample_limit_key, interval_key, pages_key, most_door_host}
use Rattle.bridge_config.specs.Configurations.{key_number, instance_of}
use Rattle.bridge_config.specs.KeyFaults.{is_job}
use Rattle.bridge_config.specs.ConfigFaults.{IsConfiguration}

-- an address of a URL
pub record IsRightAddress (a : Address) : Type 0 where
  pub host : IsTrue (is_in_range 1 most_host_bytes (length a.host))
  pub port : IsTrue (is_port a.port)

-- a target of a configuration: a job within its length, and an instance that is the host and the port of its address
pub record IsRightConfigTarget (t : Scraped) : Type 0 where
  pub job : IsTrue (is_job t.job)
  pub instance : t.instance ≡ instance_of t.address
  pub address : IsRightAddress t.address

-- the numbers of a document's keys within their ranges, before they are put into a configuration
pub record AreRightKeys (d : Members) : Type 0 where
  pub keep : IsTrue (is_in_range 0 4 (key_number d keep_key))
  pub tries : IsTrue (is_in_range 1 8 (key_number d tries_key))
  pub limit : IsTrue (is_in_range 1 200000 (key_number d sample_limit_key))
  pub max_page : IsTrue (is_in_range 1024 67108864 (key_number d max_page_key))
  pub interval : key_number d interval_key ≤ 86400000
  pub rounds : IsTrue (is_in_range 1 1000000 (key_number d rounds_key))
  pub scrapers : IsTrue (is_in_range 1 4 (key_number d scrapers_key))
  pub pages : key_number d pages_key ≤ 1000

-- settings within their ranges
pub record AreRightSettings (s : Settings) : Type 0 where
  pub keep : IsTrue (is_in_range 0 4 s.keep)
  pub tries : IsTrue (is_in_range 1 8 s.tries)
  pub limit : IsTrue (is_in_range 1 200000 s.limit)
  pub max_page : IsTrue (is_in_range 1024 67108864 s.max_page)
  pub interval : s.interval ≤ 86400000 * 10 ^ 6

-- the products within their bounds
pub record AreRightProducts (c : Config) : Type 0 where
  pub samples : length c.targets * c.settings.limit ≤ 2000000
  pub pages : c.scrapers * c.settings.max_page ≤ 2 ^ 27
  pub held : length c.targets * c.settings.max_page ≤ 2 ^ 32

-- the numbers within their ranges
pub record AreRightNumbers (c : Config) : Type 0 where
  pub settings : AreRightSettings c.settings
  pub rounds : IsTrue (is_in_range 1 1000000 c.rounds)
  pub scrapers : IsTrue (is_in_range 1 4 c.scrapers)
  pub pages : c.pages ≤ 1000

-- a right configuration: all ranges and products are kept, and no two targets have one job and one instance
pub record IsRightConfig (c : Config) : Type 0 where
  pub numbers : AreRightNumbers c
  pub products : AreRightProducts c
  pub collector : IsRightAddress c.collector
  pub door : IfSome c.door (λ a. IsTrue (is_visible_word most_door_host a.host) × IsTrue (is_port a.port))
  pub some_door : 1 ≤ c.pages → c.door ≢ None
  pub some_target : 1 ≤ length c.targets
  pub few_targets : length c.targets ≤ most_targets
  pub targets : AllByRecursion IsRightConfigTarget c.targets
  pub names : IsDistinct have_same_names c.targets

-- the numbers and products of every configuration are right
abbrev pub NumbersAreRight : Type 0
NumbersAreRight = (bytes : List ℕ) (config : Config) → IsConfiguration bytes config → AreRightNumbers config × AreRightProducts config

-- every configuration is right
abbrev pub ConfigsAreRight : Type 0
ConfigsAreRight = (bytes : List ℕ) (config : Config) → IsConfiguration bytes config → IsRightConfig config
