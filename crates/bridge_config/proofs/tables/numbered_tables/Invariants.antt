use Rattle.std.proofs.Common.{◌≡◌, ◌+◌, ◌++◌, drop}
use Rattle.toml.specs.View.{items_view}
use Rattle.bridge_config.specs.Configurations.{numbered_tables}
use Rattle.bridge_config.specs.Tables.{all_numbered}
use Rattle.bridge_config.proofs.tables.numbered_tables.Given as goal

abbrev pub invariant-loop-item : goal.invariant-loop-item
invariant-loop-item l = all_numbered l.tables.items ++ numbered_tables (l.number + 1) (items_view (drop l.item-index l.items)) ≡ numbered_tables 1 (items_view l.items)
