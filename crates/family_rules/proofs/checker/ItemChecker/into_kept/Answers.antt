use Rattle.std.proofs.Common.{◌∙◌, ap}
use Rattle.family_rules.specs.Checking.{Checking}
use Rattle.family_rules.specs.Steps.{with_left}
use Rattle.family_rules.proofs.checker.ItemChecker.into_kept.Goals as goal

pub returns-in-Ok-clause-left : goal.returns-in-Ok-clause-left
returns-in-Ok-clause-left c = c.in-Ok.ensures ∙ ap (λ (v : Checking). with_left v.left v.current) c.self.view_is
