-- A copy keeps what the target keeps, since it is equal.
use Rattle.std.proofs.Common.{◌≡◌, subst}
use Rattle.bridge_ports.specs.Targets.{Scraped, IsScraped}
use Rattle.bridge_ports.proofs.target.Target.copy.Goals as goal

pub invariant_of-result : goal.invariant_of-result
invariant_of-result c =
    let same : ◌≡◌ {A = Scraped} (record { job = c.self.inside.job; instance = c.self.inside.instance; address = c.self.inside.address; honor = c.self.inside.honor })
    (record { job = c.in_ok-copy.field-0; instance = c.in_ok-copy-2.field-0; address = c.in_ok-copy-3.field-0; honor = c.self.inside.honor })
    = cc (c.in_ok-copy.ensures, c.in_ok-copy-2.ensures, c.in_ok-copy-3.ensures)
    in subst IsScraped same c.self.invariant
