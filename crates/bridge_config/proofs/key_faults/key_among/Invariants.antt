use Rattle.std.proofs.Common.{◌≡◌, drop}
use Rattle.bridge_config.specs.KeyFaults.{key_among}
use Rattle.bridge_config.specs.Tables.{all_numbered}
use Rattle.bridge_config.proofs.key_faults.key_among.Given as goal

abbrev pub invariant-loop-found : goal.invariant-loop-found
invariant-loop-found l = key_among l.class (all_numbered (drop l.found-index l.tables)) ≡ key_among l.class (all_numbered l.tables)
