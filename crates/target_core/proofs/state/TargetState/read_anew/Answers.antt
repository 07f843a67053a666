use Rattle.std.proofs.Common.{[], ◌∙◌}
use Rattle.std.proofs.lemmas.Result.{IfOk-weaker}
use Rattle.target_core.specs.Stepping.{IsTreeAnew}
use Rattle.target_core.specs.Trees.{IsRequest, gone_part, request_of}
use Rattle.target_core.proofs.state.TargetState.read_anew.Goals as goal

pub returns : goal.returns
returns c =
    let s = c.args.self.now in
    let k = c.args.tracker.now in
    let moment = c.args.moment in
    let seen = c.args.seen.now in
    IfOk-weaker c.request_anew.result
    (IsRequest c.self.inside.target seen.resource c.args.places.now [] moment seen.up seen.series (gone_part c.self.inside.target c.self.inside.resource c.in_ok-gone.gone.items))
    (IsTreeAnew s k.rows c.args.places.now moment seen.up seen.resource seen.series)
    (λ r is place own t honor once. is place own ∙ (λ i. request_of (c.self.view_is i).target seen.resource place [] moment seen.up seen.series (gone_part (c.self.view_is i).target (c.self.view_is i).resource (c.in_ok-gone.ensures t honor once i))))
    c.request_anew.ensures
