use Rattle.std.proofs.Common.{◌∙◌, sym}
use Rattle.family_rules.proofs.Built.{page_built}
use Rattle.family_rules.proofs.checker.ItemChecker.close.Goals as goal

pub returns-clause-page : goal.returns-clause-page
returns-clause-page c = λ st earlier s. sym (page_built st c.args.self earlier s) ∙ c.in_ok-into_parts.ensures
