-- One try.
use Rattle.std.proofs.Common.{◌++◌}
use Rattle.otlp_sender.proofs.WireSteps.{connected_on, try_exchanged, try_unconnected}
use Rattle.otlp_sender.proofs.sending.try_once.Goals as goal

pub returns-in-Ok : goal.returns-in-Ok
returns-in-Ok g c =
    try_exchanged (c.args.front.now ++ c.args.rest.now) c.begin-at.result _ _ _ _ c.requires.ready.talks_left (connected_on _ _ _ c.in-Ok.ensures.done c.begin-at.ensures) c.exchange.ensures

pub returns-in-Err : goal.returns-in-Err
returns-in-Err g c = try_unconnected (c.args.front.now ++ c.args.rest.now) c.begin-at.result _ _ _ c.requires.ready.talks_left c.begin-at.ensures c.in-Err.ensures.failed c.in-Err.ensures.cause.later c.in-Err.ensures.cause.failed
