-- What the steps of reading a configuration answer.
-- The bridge's own.
use Rattle.std.specs.Prelude.{◌≡◌, ℕ, ◌⊎◌, List, None, Result, MatchResult, String}
use Rattle.std.specs.BTreeMap.{BTreeMap}
use Rattle.std.specs.declared.alloc.Global.{Global}
use Rattle.toml.specs.Data.{Members}
use Rattle.toml.specs.View.{table_view}
use Rattle.toml.specs.declared.value.Value.{Value}
use Rattle.bridge_config.specs.declared.config.Config.{Config}
use Rattle.bridge_config.specs.declared.fault.ConfigFault.{ConfigFault}
use Rattle.bridge_config.specs.declared.fault.ConfigFault.TheVariants.{Memory}
use Rattle.bridge_config.specs.Configurations.{IsDocument, config_of}
use Rattle.bridge_config.specs.ConfigFaults.{config_fault, HasConfigFault, IsAnswered}

-- want of memory, or the fault of the bytes
abbrev pub IsFaultOrMemory : List ℕ → ConfigFault → Type 0
IsFaultOrMemory bytes fault = (fault ≡ Memory) ⊎ HasConfigFault bytes fault

-- the document of the bytes, or their fault
abbrev pub ReadsDocument : List ℕ → Result (BTreeMap (String Global) Value) ConfigFault → Type 0
ReadsDocument bytes result = MatchResult result (λ t. IsDocument bytes (table_view t)) (IsFaultOrMemory bytes)

-- the configuration of a document, or its first fault
abbrev pub Judges : Members → Result Config ConfigFault → Type 0
Judges document result = MatchResult result (λ config. (config_fault document ≡ None) × (config ≡ config_of document)) (IsAnswered (config_fault document))
