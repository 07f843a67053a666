use Rattle.std.proofs.Common.{ap, sym, ◌∙◌}
use Rattle.std.proofs.lemmas.Result.{IfOk-weaker}
use Rattle.label_sets.specs.Labels.{label_sets_eq}
use Rattle.start_times.specs.Rows.{Tracked}
use Rattle.otlp_tree.specs.declared.tree.Request.{Request}
use Rattle.target_core.specs.States.{Following}
use Rattle.target_core.specs.Stepping.{ReadsWithin, ReadsAnew, StepsBySeen}
use Rattle.target_core.proofs.Stepping.{within_steps, anew_steps}
use Rattle.target_core.proofs.state.TargetState.later_tree.Goals as goal

pub returns-then-leaves : goal.returns-then-leaves
returns-then-leaves c =
    let s = c.args.self.now in
    let seen = c.args.seen.now in
    let moment = c.args.moment in
    let k = c.in_ok-tracker.tracker in
    let same = sym (c.leaves.ensures ∙ ap (λ (x : Following). label_sets_eq x.resource seen.resource) c.self.view_is) ∙ c.if-leaves.true in
    IfOk-weaker c.tree_within.result (λ (r : Request × Tracked). ReadsWithin s k moment seen.up seen.series r.0 r.1) (λ (r : Request × Tracked). StepsBySeen s moment seen r.0 r.1)
    (λ r reads e outcome is sees. within_steps s e outcome moment seen.up seen.resource seen.series seen.last k r.1 r.0 is sees c.in_ok-tracker.ensures same reads) c.tree_within.ensures

pub returns : goal.returns
returns c =
    let s = c.args.self.now in
    let seen = c.args.seen.now in
    let moment = c.args.moment in
    let k = c.in_ok-tracker.tracker in
    let other = sym (c.leaves.ensures ∙ ap (λ (x : Following). label_sets_eq x.resource seen.resource) c.self.view_is) ∙ c.if-leaves.false in
    IfOk-weaker c.tree_anew.result (λ (r : Request × Tracked). ReadsAnew s k.rows moment seen.up seen.resource seen.series r.0 r.1) (λ (r : Request × Tracked). StepsBySeen s moment seen r.0 r.1)
    (λ r reads e outcome is sees. anew_steps s e outcome moment seen.up seen.resource seen.series seen.last k r.1 r.0 is sees c.in_ok-tracker.ensures other reads) c.tree_anew.ensures
