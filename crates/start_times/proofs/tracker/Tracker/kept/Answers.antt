use Rattle.std.proofs.Common.{zip, ap}
use Rattle.std.proofs.lemmas.Result.{IfOk-weaker}
use Rattle.start_times.specs.Rows.{Tracked}
use Rattle.start_times.proofs.KeptRows.{rows_listed}
use Rattle.start_times.proofs.tracker.Tracker.kept.Goals as goal

pub returns : goal.returns
returns c = IfOk-weaker c.from_vec.result _ _
    (λ list is. λ once. rows_listed (zip c.self.inside.keys c.self.inside.rows) c.args.self.now c.in_ok-rows.rows.items list (ap (λ (k : Tracked). k.rows) c.self.view_is) c.in_ok-rows.ensures is once)
    c.from_vec.ensures
