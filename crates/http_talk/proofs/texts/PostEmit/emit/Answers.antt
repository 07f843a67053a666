use Rattle.text_emitter.proofs.Laws.{emitted}
use Rattle.http_talk.specs.Requests.{post_request}
use Rattle.http_talk.proofs.texts.PostEmit.emit.Goals as goal

pub returns : goal.returns
unfolding post_request
returns g c = simp emitted (cc)
