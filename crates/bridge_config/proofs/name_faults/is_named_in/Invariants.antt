use Rattle.std.proofs.Common.{◌≡◌, drop}
use Rattle.bridge_config.specs.ConfigFaults.{is_named_in}
use Rattle.bridge_config.proofs.name_faults.is_named_in.Given as goal

abbrev pub invariant-loop-other : goal.invariant-loop-other
invariant-loop-other l = is_named_in (drop l.other-index l.earlier) l.target ≡ is_named_in l.earlier l.target
