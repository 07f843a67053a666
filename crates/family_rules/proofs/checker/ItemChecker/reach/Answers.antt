use Rattle.std.proofs.Common.{◌∙◌, sym}
use Rattle.family_rules.proofs.Taking.{on_ok, reached_same, reached_other}
use Rattle.family_rules.proofs.checker.ItemChecker.reach.Goals as goal

pub returns-then-is_current : goal.returns-then-is_current
returns-then-is_current c = reached_same c.args.self.now c.args.family (sym c.is_current.ensures ∙ c.if-is_current.true)

pub returns : goal.returns
returns c = on_ok _ _ c.begin.result (reached_other c.args.self.now c.begin.new.self c.args.family (sym c.is_current.ensures ∙ c.if-is_current.false)) c.begin.ensures
