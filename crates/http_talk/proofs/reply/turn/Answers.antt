-- A reply that is whole.
use Rattle.std.proofs.Common.{Ok, subst}
use Rattle.http_talk.specs.Streams.{FlowAnswer}
use Rattle.http_talk.proofs.Gathering.{turn_whole}
use Rattle.http_talk.proofs.reply.turn.Goals as goal

pub returns-in-Ok-Whole-clause-answer : goal.returns-in-Ok-Whole-clause-answer
returns-in-Ok-Whole-clause-answer c = λ fed f.
    turn_whole fed c.args.body.now.items c.args.piece.now c.feed.new.taken c.args.stream.now c.feed.new.self
    (subst (λ flow. FlowAnswer fed c.args.body.now.items c.args.piece.now c.feed.new.taken c.args.stream.now c.feed.new.self (Ok flow)) c.in-Ok-Whole.field-0-is (c.in-Ok-Whole.ensures.answer fed c.args.body.now.items f))
