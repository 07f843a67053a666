use Rattle.family_rules.proofs.Taking.{quiet_taken}
use Rattle.family_rules.proofs.checker.ItemChecker.take_more.Goals as goal

pub returns-in-Blank : goal.returns-in-Blank
returns-in-Blank c = quiet_taken c.args.self.now c.args.item c.in-Blank.is
