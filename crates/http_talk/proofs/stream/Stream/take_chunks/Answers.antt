-- What the chunks come to.
use Rattle.std.proofs.Common.{◌∙◌, ap, subst}
use Rattle.http_talk.specs.ChunkFeeding.{TakesFront}
use Rattle.http_talk.proofs.ChunkSteps.{counted}
use Rattle.http_talk.proofs.StreamSteps.{takes_from, chunks_step_at}
use Rattle.http_talk.proofs.stream.Stream.take_chunks.Goals as goal

pub returns : goal.returns
returns c =
    let inside = c.self.inside in
    let piece = c.args.piece.now in
    let run = c.take_front-run.result in
    let chunks = c.take_front-run.new.self in
    let front : TakesFront inside.most (counted c.args.place inside.body inside.got) chunks piece run.from run.to =
    subst (λ v. TakesFront inside.most v chunks piece run.from run.to) c.at-chunks.ensures c.take_front-run.ensures in
    takes_from _ _ _ _ _ _ c.self.view_is c.step_behind.ensures
    (chunks_step_at inside.most c.args.place inside.format inside.kept.items inside.body inside.got inside.stopped piece chunks run.from run.to front
    c.progress.result inside.part c.part-self-inside.result c.body-self-inside.result c.total-self-inside.result
    (ap (λ v. v.part) c.self.view_is ∙ c.requires.part) c.part-self-inside.ensures.part c.body-self-inside.ensures c.total-self-inside.ensures c.progress.ensures)
