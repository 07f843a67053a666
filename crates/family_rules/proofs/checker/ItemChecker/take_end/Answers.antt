use Rattle.std.proofs.Common.{◌∙◌, ap, true}
use Rattle.family_rules.specs.Checking.{Checking}
use Rattle.family_rules.specs.Steps.{left_stop}
use Rattle.family_rules.proofs.Taking.{end_taken}
use Rattle.family_rules.proofs.checker.ItemChecker.take_end.Goals as goal

pub returns : goal.returns
returns c = end_taken c.args.self.now _ c.left_rule.result (ap (λ (v : Checking). record v { ended = true }) c.self.view_is) (c.left_rule.ensures ∙ ap (λ (v : Checking). left_stop v.current) c.self.view_is)
