use Rattle.std.proofs.Common.{[]}
use Rattle.std.proofs.lemmas.Result.{IfOk-weaker}
use Rattle.start_times.specs.declared.row.Starts.{Starts}
use Rattle.start_times.specs.Rows.{Tracked}
use Rattle.start_times.specs.Advancing.{Advances}
use Rattle.target_core.specs.Stepping.{AdvancesAnew}
use Rattle.target_core.proofs.state.TargetState.rows_anew.Goals as goal

pub returns : goal.returns
returns c =
    let page = c.args.series.now in
    let moment = c.args.moment in
    IfOk-weaker c.advance-rows.result (λ (r : Starts × Tracked). Advances c.in_ok-none.none page moment r.0 r.1) (λ (r : Starts × Tracked). AdvancesAnew c.args.self.now page moment r.0 r.1)
    (λ r advances t honor keep distinct. let own = advances t [] (c.in_ok-none.ensures t honor keep) distinct in (own.0, own.1)) c.advance-rows.ensures
