use Rattle.std.proofs.Common.{subst, sym}
use Rattle.target_core.specs.States.{Following, Steps}
use Rattle.target_core.proofs.Stepping.{first_steps, first_tree}
use Rattle.target_core.proofs.state.TargetState.first_step.Goals as goal

pub returns-in-Ok-clause-ok : goal.returns-in-Ok-clause-ok
returns-in-Ok-clause-ok c = λ e is.
    let s = c.args.self.now in
    let seen = c.in_ok-seen.seen in
    subst (λ (x : Following). Steps s e c.in-Ok.tree x) (sym c.take_page.ensures)
    (first_steps s e c.args.outcome c.args.moment seen.up seen.resource seen.series seen.last c.in-Ok.tree c.requires is c.in_ok-seen.ensures c.in-Ok.ensures)

pub returns-in-Ok-clause-tree : goal.returns-in-Ok-clause-tree
returns-in-Ok-clause-tree c = λ e is.
    let seen = c.in_ok-seen.seen in
    first_tree c.args.self.now.target e c.args.outcome c.args.moment seen.up seen.resource seen.series seen.last c.in-Ok.tree is c.in_ok-seen.ensures c.in-Ok.ensures
