-- Steps of the code, over plain lists.
use Rattle.std.proofs.Common.{◌≡◌, ℕ, suc, Bool, List, [], ◌∷◌, ◌++◌, map, length, drop, refl, ap}
use Rattle.label_sets.specs.Lists.{first_some}
use Rattle.toml.specs.View.{items_view}
use Rattle.toml.specs.declared.value.Value.{Value}
use Rattle.bridge_ports.specs.Targets.{Scraped}
use Rattle.bridge_config.specs.declared.tables.TargetTable.{TargetTable}
use Rattle.bridge_config.specs.ConfigKeys.{item_count}
use Rattle.bridge_config.specs.Configurations.{table_target}
use Rattle.bridge_config.specs.ConfigFaults.{wrong_target}
use Rattle.bridge_config.specs.Makings.{HaveJobs}
use Rattle.bridge_config.specs.Tables.{all_numbered}

-- as many elements as values
pub count_view : (vs : List Value) → item_count (items_view vs) ≡ length vs
count_view [] = refl
count_view (v ∷ vs) = ap suc (count_view vs)

-- what is left of some tables, in front of which these targets were made
pub record AreLeft (honor : Bool) (tables : List TargetTable) (i : ℕ) (made : List Scraped) : Type 0 where
  pub wrong : first_some wrong_target (all_numbered (drop i tables)) ≡ first_some wrong_target (all_numbered tables)
  pub whole : made ++ map (table_target honor) (all_numbered (drop i tables)) ≡ map (table_target honor) (all_numbered tables)
  pub jobs : HaveJobs (all_numbered (drop i tables))
