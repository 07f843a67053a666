use Rattle.std.proofs.Common.{◌≡◌, drop}
use Rattle.label_sets.specs.Lists.{first_some}
use Rattle.toml.specs.View.{table_view}
use Rattle.bridge_config.specs.KeyFaults.{class_fault, key_classes}
use Rattle.bridge_config.proofs.key_faults.check_keys.Given as goal

abbrev pub invariant-loop-class : goal.invariant-loop-class
invariant-loop-class l = first_some (λ which. class_fault which (table_view l.document)) (drop l.class-index l.class-items) ≡ first_some (λ which. class_fault which (table_view l.document)) key_classes
