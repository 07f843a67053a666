use Rattle.std.proofs.Common.{arith}
use Rattle.world_run.proofs.Tracks.{names_at, end_told}
use Rattle.world_run.proofs.ends.renew_ends.Goals as goal

pub renew_end-requires-after_bounds : goal.renew_end-requires-after_bounds
renew_end-requires-after_bounds g c κs within =
    names_at c.loop-at.ends c.args.tracks.now c.loop-at.at c.index-ends-at.result c.index-tracks-at.result c.loop-at.invariant.1 (omega (arith, c.loop-at-test.true)) c.index-tracks-at.is

pub loop-at-preserved : goal.loop-at-preserved
loop-at-preserved g c =
    let next = end_told c.loop-at.ends c.args.tracks.now c.loop-at.at c.renew_end.new.end c.index-tracks-at.result c.loop-at.invariant.1 (omega (arith, c.loop-at-test.true)) c.index-tracks-at.is c.renew_end.ensures c.loop-at.invariant.2 in
    (omega (arith, c.loop-at-test.true), next.0, next.1)
