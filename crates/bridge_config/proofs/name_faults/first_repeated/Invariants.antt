use Rattle.std.proofs.Common.{◌≡◌, ◌+◌, [], drop, take}
use Rattle.bridge_config.specs.ConfigFaults.{first_repeated}
use Rattle.bridge_config.proofs.name_faults.first_repeated.Given as goal

abbrev pub invariant-loop-at : goal.invariant-loop-at
invariant-loop-at l = first_repeated (l.at + 1) (take l.at l.targets) (drop l.at l.targets) ≡ first_repeated 1 [] l.targets
