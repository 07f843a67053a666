-- The first fault of a configuration: after those in its keys come its addresses, its names and its products.
-- The bridge's own.
use Rattle.std.specs.Prelude.{◌≡◌, ℕ, ◌+◌, ◌*◌, ◌^◌, ◌⊎◌, Bool, List, [], ◌∷◌, ◌++◌, length, Option, Some, None, is_none, option_map, Result, MatchResult, nat_lt}
use Rattle.std.specs.List.{list_any}
use Rattle.std.specs.Option.{option_or}
use Rattle.label_sets.specs.Lists.{when_true, first_some}
use Rattle.bridge_ports.specs.Targets.{Scraped, have_same_names}
use Rattle.toml.specs.Data.{Members}
use Rattle.bridge_config.specs.declared.config.Config.{Config}
use Rattle.bridge_config.specs.declared.fault.ConfigFault.{ConfigFault}
use Rattle.bridge_config.specs.declared.fault.ConfigFault.TheVariants.{Toml, Address, Twice, Product, Memory}
use Rattle.bridge_config.specs.declared.fault.Product as products
use Rattle.bridge_config.specs.declared.fault.Product.TheVariants.{Samples, Pages, Held}
use Rattle.bridge_config.specs.ConfigKeys.{collector_key, url_word}
use Rattle.bridge_config.specs.Addresses.{right_url}
use Rattle.bridge_config.specs.Configurations.{IsDocument, text_at, target_tables, config_of}
use Rattle.bridge_config.specs.KeyFaults.{key_fault}

-- ---- addresses

-- the number of a URL that isn't an address
abbrev pub wrong_address : ℕ × List ℕ → Option ℕ
wrong_address found = when_true (is_none (right_url found.1)) found.0

-- the number of a target whose URL isn't an address
abbrev pub wrong_target : ℕ × Members → Option ℕ
wrong_target found = wrong_address (found.0, text_at found.1 url_word)

-- the first URL that isn't an address: the collector's has the number 0
unfoldable pub address_fault : Members → Option ConfigFault
address_fault document = option_map Address (option_or (wrong_address (0, text_at document collector_key.word)) (first_some wrong_target (target_tables document)))

-- ---- names

-- a target has the names of an earlier one
abbrev pub is_named_in : List Scraped → Scraped → Bool
is_named_in earlier t = list_any (have_same_names t) earlier

-- the number of the first target that has the names of an earlier one; the number is that of the first of these targets
abbrev pub first_repeated : ℕ → List Scraped → List Scraped → Option ℕ
first_repeated n earlier [] = None
first_repeated n earlier (t ∷ ts) = option_or (when_true (is_named_in earlier t) n) (first_repeated (n + 1) (earlier ++ t ∷ []) ts)

-- the first target that has the job and the instance of an earlier one
unfoldable pub twice_fault : List Scraped → Option ConfigFault
twice_fault targets = option_map Twice (first_repeated 1 [] targets)

-- ---- products

-- the product, where it is above its bound
abbrev pub too_large : products.Product → (bound value : ℕ) → Option products.Product
too_large name bound value = when_true (nat_lt bound value) name

-- the first product above its bound: targets by samples of a page, scrapers by bytes of a page, targets by bytes of a page
abbrev pub product_too_large : Config → Option products.Product
product_too_large c = option_or (too_large Samples 2000000 (length c.targets * c.settings.limit))
    (option_or (too_large Pages (2 ^ 27) (c.scrapers * c.settings.max_page)) (too_large Held (2 ^ 32) (length c.targets * c.settings.max_page)))

-- the first product that is above its bound
unfoldable pub product_fault : Config → Option ConfigFault
product_fault config = option_map Product (product_too_large config)

-- ---- the first fault

-- the first fault in what a configuration says
unfoldable pub limits_fault : Config → Option ConfigFault
limits_fault config = option_or (twice_fault config.targets) (product_fault config)

-- the first fault of a document
unfoldable pub config_fault : Members → Option ConfigFault
config_fault document = option_or (key_fault document) (option_or (address_fault document) (limits_fault (config_of document)))

-- the bytes are this configuration
pub record IsConfiguration (bytes : List ℕ) (config : Config) : Type 0 where
  pub document : Members
  pub is_document : IsDocument bytes document
  pub without_fault : config_fault document ≡ None
  pub says : config ≡ config_of document

-- the bytes have this first fault
pub data HasConfigFault (bytes : List ℕ) : ConfigFault → Type 0 where
  no_document : ((document : Members) → ¬ IsDocument bytes document) → HasConfigFault bytes Toml
  in_document : (document : Members) (fault : ConfigFault) → IsDocument bytes document → config_fault document ≡ Some fault → HasConfigFault bytes fault

-- ---- what a check answers

-- a fault that is answered: the expected one, or want of memory
abbrev pub IsAnswered : Option ConfigFault → ConfigFault → Type 0
IsAnswered expected fault = (fault ≡ Memory) ⊎ (expected ≡ Some fault)

-- all is well where no fault is expected; else that fault is answered, or want of memory
abbrev pub Checks : {T : Type 0} → Option ConfigFault → Result T ConfigFault → Type 0
Checks expected result = MatchResult result (λ _. expected ≡ None) (IsAnswered expected)
