use Rattle.text_emitter.proofs.Laws.{emitted}
use Rattle.page_server.specs.Serving.{reply_head}
use Rattle.page_server.proofs.reply.ReplyHeadEmit.emit.Goals as goal

pub returns : goal.returns
unfolding reply_head
returns g c = simp emitted (cc)
