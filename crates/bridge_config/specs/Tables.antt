-- The tables of targets, and the places of keys, as the code holds them.
-- The bridge's own.
use Rattle.std.specs.Prelude.{ℕ, List, map}
use Rattle.toml.specs.Data.{Members}
use Rattle.toml.specs.View.{table_view}
use Rattle.bridge_config.specs.declared.tables.TargetTable.{TargetTable}
use Rattle.bridge_config.specs.declared.key_faults.KeyPlace.{KeyPlace}
use Rattle.bridge_config.specs.declared.key_faults.KeyPlace.TheVariants as place
use Rattle.bridge_config.specs.KeyFaults.{target_name}

-- a table with its number
abbrev pub numbered : TargetTable → ℕ × Members
numbered t = (t.number, table_view t.table.now)

-- some tables with their numbers
abbrev pub all_numbered : List TargetTable → List (ℕ × Members)
all_numbered tables = map numbered tables

-- a key, as a fault names it
abbrev pub key_text : KeyPlace → List ℕ
key_text (place.Top word) = word.now
key_text (place.InTarget n word) = target_name n word.now
