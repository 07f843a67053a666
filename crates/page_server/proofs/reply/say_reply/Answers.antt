use Rattle.std.proofs.Common.{refl}
use Rattle.page_server.proofs.ServeSteps.{reply_said, reply_cut}
use Rattle.page_server.proofs.reply.say_reply.Goals as goal

pub returns-in-Ok-say_both : goal.returns-in-Ok-say_both
returns-in-Ok-say_both g c =
    (refl, reply_said c.args.status _ c.args.page.now _ (g.K.Conn.seen c.args.conn.now) (g.K.Conn.seen c.say_both.new.conn) c.in-Ok.ensures c.as_slice.ensures.value c.in-Ok-say_both.ensures.whole)

pub returns : goal.returns
returns g c =
    reply_cut c.args.status _ c.args.page.now _ (g.K.Conn.seen c.args.conn.now) (g.K.Conn.seen c.say_both.new.conn) c.in-Ok.ensures c.as_slice.ensures.value c.in-Err-say_both.ensures.front
