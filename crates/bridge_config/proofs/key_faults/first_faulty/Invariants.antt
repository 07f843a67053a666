use Rattle.std.proofs.Common.{◌≡◌, drop}
use Rattle.label_sets.specs.Lists.{first_some}
use Rattle.toml.specs.View.{table_view}
use Rattle.bridge_config.specs.ConfigKeys.{all_keys}
use Rattle.bridge_config.specs.KeyFaults.{faulty_key}
use Rattle.bridge_config.proofs.key_faults.first_faulty.Given as goal

abbrev pub invariant-loop-key : goal.invariant-loop-key
invariant-loop-key l = first_some (faulty_key l.class (table_view l.document)) (drop l.key-index l.key-items) ≡ first_some (faulty_key l.class (table_view l.document)) all_keys
