use Rattle.scope_metrics.proofs.LaidOut.{one_laid_out}
use Rattle.scope_metrics.proofs.scope_parts.ScopePart.close.Goals as goal

pub invariant_of-self-2 : goal.invariant_of-self-2
invariant_of-self-2 c = one_laid_out c.self.inside.families.items c.push.new.self.items c.in_ok-family.family c.in_ok-push.ensures.items c.self.invariant c.in_ok-family.ensures.right

pub returns-clause-right : goal.returns-clause-right
returns-clause-right c = one_laid_out c.self.inside.families.items c.push.new.self.items c.in_ok-family.family c.in_ok-push.ensures.items c.self.invariant c.in_ok-family.ensures.right
