use Rattle.std.proofs.Common.{subst}
use Rattle.std.proofs.lemmas.Str.{IsUtf8-had}
use Rattle.bridge_ports.specs.Targets.{IsScraped}
use Rattle.bridge_ports.proofs.target.Target.address.Goals as goal

pub returns-clause-kept : goal.returns-clause-kept
returns-clause-kept c = IsUtf8-had _ (subst IsScraped c.self.view_is c.self.invariant).host
