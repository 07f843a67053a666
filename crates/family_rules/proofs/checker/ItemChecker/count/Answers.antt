use Rattle.std.proofs.Common.{◌∙◌, ap}
use Rattle.page_model.specs.Counts.{counts_of}
use Rattle.family_rules.proofs.Built.{page_built}
use Rattle.family_rules.proofs.checker.ItemChecker.count.Goals as goal

pub returns-clause-counts : goal.returns-clause-counts
returns-clause-counts c = λ st earlier s. c.in_ok-into_counts.ensures ∙ ap counts_of (page_built st c.args.self earlier s)
