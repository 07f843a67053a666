use Rattle.std.proofs.Common.{◌≡◌, ◌∙◌, ℕ, ap, subst, arith, length}
use Rattle.bridge_ports.specs.declared.talk.End.TheVariants as ends
use Rattle.bridge_ports.specs.declared.talk.Stage.TheVariants as stages
use Rattle.bridge_ports.specs.Causes.{Rose}
use Rattle.bridge_ports.specs.Talks.{WireState, sent_on, failed_at}
use Rattle.scrape_client.specs.PageReplies.{most_of}
use Rattle.scrape_client.proofs.Exchanging.{no_connection, no_write, reply_read, connected_at}
use Rattle.scrape_client.proofs.talk.exchange.Goals as goal

pub returns-in-Err : goal.returns-in-Err
returns-in-Err g c = λ old at is.
    let same : (g.W.Wire.state c.args.wire.now).faults ≡ old.faults = ap (λ (w : WireState). w.faults) is in
    rw c.fail.ensures (no_connection c.args.reply.limit (most_of c.args.reply) at c.args.text.now old (g.W.Wire.state c.connect.new.self)
    (c.in-Err.ensures.failed ∙ ap (failed_at ends.ConnectFailed (g.W.Wire.state c.connect.new.self).faults) is)
    (omega (arith, same, c.in-Err.ensures.cause.later))
    (subst (λ (f : ℕ). Rose f (g.W.Wire.state c.connect.new.self).faults) same c.in-Err.ensures.cause.failed))

pub returns-in-Ok-send_text : goal.returns-in-Ok-send_text
returns-in-Ok-send_text g c = λ old at is.
    let there : g.W.Wire.state c.connect.new.self ≡ connected_at at (length c.args.text.now) old = c.in-Ok.ensures.done ∙ ap (λ (w : WireState). record w { stage = stages.Connected }) is in
    reply_read c.args.reply.limit (most_of c.args.reply) at c.args.text.now old (g.W.Wire.state c.send_text.new.wire) (g.W.Wire.state c.read_reply.new.wire) c.read_reply.result
    (c.in-Ok-send_text.ensures.sent ∙ ap (sent_on c.args.text.now) there) c.read_reply.ensures

pub returns-in-Err-send_text : goal.returns-in-Err-send_text
returns-in-Err-send_text g c = λ old at is.
    let there : g.W.Wire.state c.connect.new.self ≡ connected_at at (length c.args.text.now) old = c.in-Ok.ensures.done ∙ ap (λ (w : WireState). record w { stage = stages.Connected }) is in
    let same : (g.W.Wire.state c.connect.new.self).faults ≡ old.faults = ap (λ (w : WireState). w.faults) there in
    let s = c.in-Err-send_text.ensures.sent in
    rw c.fail-in-Err-send_text.ensures (no_write c.args.reply.limit (most_of c.args.reply) at c.args.text.now s.0 s.1 old (g.W.Wire.state c.send_text.new.wire) s.2
    (s.3 ∙ ap (λ (w : WireState). failed_at ends.WriteFailed (g.W.Wire.state c.send_text.new.wire).faults (sent_on s.0 w)) there)
    (omega (arith, same, c.in-Err-send_text.ensures.cause.later))
    (subst (λ (f : ℕ). Rose f (g.W.Wire.state c.send_text.new.wire).faults) same c.in-Err-send_text.ensures.cause.failed))
