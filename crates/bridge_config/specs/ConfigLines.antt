-- The line that is printed of a configuration's fault.
-- The bridge's own.
use Rattle.std.specs.Prelude.{ℕ, List, ◌++◌, codes}
use Rattle.std.specs.Fmt.{decimal}
use Rattle.bridge_config.specs.declared.fault.ConfigFault.{ConfigFault}
use Rattle.bridge_config.specs.declared.fault.ConfigFault.TheVariants.{Toml, Unknown, Kind, Missing, Range, Address, Twice, Product, Memory}
use Rattle.bridge_config.specs.declared.fault.Product as Product
use Rattle.bridge_config.specs.declared.fault.Product.TheVariants.{Samples, Pages, Held}

-- the word of a product
abbrev pub product_word : Product.Product → List ℕ
product_word Samples = codes "samples"
product_word Pages = codes "pages"
product_word Held = codes "held"

-- what a fault's line says behind `config: `; want of memory has no line
unfoldable pub fault_words : ConfigFault → List ℕ
fault_words Toml = codes "toml"
fault_words (Unknown key) = codes "unknown " ++ key
fault_words (Kind key) = codes "kind " ++ key
fault_words (Missing key) = codes "missing " ++ key
fault_words (Range key) = codes "range " ++ key
fault_words (Address n) = codes "address " ++ decimal n
fault_words (Twice n) = codes "twice " ++ decimal n
fault_words (Product p) = codes "product " ++ product_word p
fault_words Memory = codes "memory"

-- the line of a fault
abbrev pub config_line : ConfigFault → List ℕ
config_line fault = codes "config: " ++ (fault_words fault ++ codes "\n")
