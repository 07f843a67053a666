use Rattle.std.proofs.Common.{subst}
use Rattle.bridge_ports.specs.Targets.{IsScraped}
use Rattle.bridge_ports.proofs.target.Target.instance.Goals as goal

pub returns-clause-kept : goal.returns-clause-kept
returns-clause-kept c = (subst IsScraped c.self.view_is c.self.invariant).instance
