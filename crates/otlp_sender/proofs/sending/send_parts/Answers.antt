-- The first part goes before the second.
use Rattle.std.proofs.lemmas.Result.{on_err_weaker}
use Rattle.otlp_sender.proofs.WireSteps.{broke_rest}
use Rattle.otlp_sender.proofs.sending.send_parts.Goals as goal

pub returns-in-Ok-clause-failed : goal.returns-in-Ok-clause-failed
returns-in-Ok-clause-failed g c = on_err_weaker c.send-in-Ok.result (broke_rest c.args.front.now c.args.rest.now _ _ _ c.in-Ok.ensures.done) c.send-in-Ok.ensures.failed
