use Rattle.text_emitter.proofs.Laws.{emitted}
use Rattle.http_talk.specs.Requests.{post_head}
use Rattle.http_talk.proofs.texts.PostHeadEmit.emit.Goals as goal

pub returns : goal.returns
unfolding post_head
returns g c = simp emitted (cc)
