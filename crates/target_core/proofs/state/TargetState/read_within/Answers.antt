use Rattle.std.proofs.Common.{[], ◌∙◌}
use Rattle.std.proofs.lemmas.Result.{IfOk-weaker}
use Rattle.target_core.specs.Stepping.{IsTreeWithin}
use Rattle.target_core.specs.Trees.{IsRequest, request_of}
use Rattle.target_core.proofs.state.TargetState.read_within.Goals as goal

pub returns : goal.returns
returns c =
    let s = c.args.self.now in
    let k = c.args.tracker.now in
    let starts = c.args.starts.now in
    let moment = c.args.moment in
    let seen = c.args.seen.now in
    IfOk-weaker c.request_alone.result (IsRequest c.self.inside.target c.self.inside.resource c.as_slice-places.result.now c.in_ok-markers.markers.items moment seen.up seen.series [])
    (IsTreeWithin s k.rows starts.list starts.misses moment seen.up seen.series)
    (λ r is place own t honor once. is place (c.as_slice-places.ensures ∙ own) ∙ (λ i. request_of (c.self.view_is i).target (c.self.view_is i).resource place (c.in_ok-markers.ensures t honor once i) moment seen.up seen.series []))
    c.request_alone.ensures
