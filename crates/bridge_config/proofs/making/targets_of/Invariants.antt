use Rattle.bridge_config.proofs.CodeSteps.{AreLeft}
use Rattle.bridge_config.proofs.making.targets_of.Given as goal

abbrev pub invariant-loop-found : goal.invariant-loop-found
invariant-loop-found l = AreLeft l.honor l.tables l.found-index l.targets.items
