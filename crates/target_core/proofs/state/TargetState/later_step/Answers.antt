use Rattle.std.proofs.Common.{subst, sym, ap}
use Rattle.label_sets.specs.declared.label_set.LabelSet.{LabelSet}
use Rattle.target_core.specs.States.{Following, Steps}
use Rattle.target_pages.specs.Outcomes.{IsSeen}
use Rattle.target_core.proofs.state.TargetState.later_step.Goals as goal

pub returns-in-Ok-clause-ok : goal.returns-in-Ok-clause-ok
returns-in-Ok-clause-ok c = λ e is.
    let seen = c.in_ok-seen.seen in
    let sees = subst (λ (before : LabelSet). IsSeen before c.args.outcome seen.up seen.resource seen.series seen.last) (ap (λ (x : Following). x.resource) c.self.view_is) c.in_ok-seen.ensures in
    subst (λ (x : Following). Steps c.args.self.now e c.in-Ok.tree x) (sym c.follow.ensures) (c.in-Ok.ensures e c.args.outcome is sees)
