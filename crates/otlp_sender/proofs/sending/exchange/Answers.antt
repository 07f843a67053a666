-- What was sent, and what came back.
use Rattle.std.proofs.Common.{◌++◌}
use Rattle.otlp_sender.proofs.WireSteps.{exchange_broke, exchange_read}
use Rattle.otlp_sender.proofs.sending.exchange.Goals as goal

pub returns-in-Ok : goal.returns-in-Ok
returns-in-Ok g c = exchange_read (c.args.front.now ++ c.args.rest.now) _ _ _ _ c.in-Ok.ensures.done c.read_answer.ensures

pub returns-in-Err : goal.returns-in-Err
returns-in-Err g c = exchange_broke (c.args.front.now ++ c.args.rest.now) _ _ c.in-Err.ensures.failed
