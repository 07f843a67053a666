use Rattle.std.proofs.Common.{◌∙◌, refl, sym}
use Rattle.family_rules.proofs.Built.{end_kept}
use Rattle.family_rules.proofs.checker.ItemChecker.end_fault.Goals as goal

pub returns-in-Some-end_rule-clause-answer : goal.returns-in-Some-end_rule-clause-answer
returns-in-Some-end_rule-clause-answer c = λ st earlier s. (refl, end_kept st c.args.self.now earlier c.args.clean s ∙ sym c.in-Some-end_rule.ensures)

pub returns-in-None-clause-answer : goal.returns-in-None-clause-answer
returns-in-None-clause-answer c = λ st earlier s. end_kept st c.args.self.now earlier c.args.clean s ∙ sym c.in-None.ensures
