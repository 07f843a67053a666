use Rattle.text_emitter.proofs.Laws.{emitted}
use Rattle.http_talk.specs.Requests.{get_request}
use Rattle.http_talk.proofs.texts.GetEmit.emit.Goals as goal

pub returns : goal.returns
unfolding get_request
returns g c = simp emitted (cc)
