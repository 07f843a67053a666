use Rattle.std.proofs.Common.{◌≡◌, drop}
use Rattle.replay_script.specs.ScriptRules.{has_namesake}
use Rattle.replay_script.proofs.targets.has_namesake.Given as goal

abbrev pub invariant-loop-other : goal.invariant-loop-other
invariant-loop-other l = has_namesake (drop l.other-index l.targets) l.target ≡ has_namesake l.targets l.target
