-- What a piece gives.
use Rattle.std.proofs.Common.{sym, subst, ◌++◌}
use Rattle.http_talk.specs.ReplyReading.{Stands}
use Rattle.http_talk.proofs.Gathering.{stream_stands, gather_feeds_as}
use Rattle.http_talk.proofs.reply.Reply.feed.Goals as goal

pub returns-in-Ok-clause-answer : goal.returns-in-Ok-clause-answer
returns-in-Ok-clause-answer c = λ fed stands.
    let inside = c.self.inside in
    let f = stream_stands inside.stream inside.body.items inside.stopped fed (c.self.invariant c.in_default.is) (subst (Stands fed) (sym c.self.view_is) stands) in
    gather_feeds_as c.gather_all.new.stream c.gather_all.new.body.items (fed ++ c.args.piece.now) inside.stopped c.in-Ok.progress c.in_default.is (c.in-Ok.ensures.answer fed f)

pub returns-in-Err-clause-answer : goal.returns-in-Err-clause-answer
returns-in-Err-clause-answer c = λ fed stands.
    let inside = c.self.inside in
    let f = stream_stands inside.stream inside.body.items inside.stopped fed (c.self.invariant c.in_default.is) (subst (Stands fed) (sym c.self.view_is) stands) in
    c.in-Err.ensures.answer fed f
