-- The end of a reply.
use Rattle.std.proofs.Common.{sym, subst}
use Rattle.http_talk.specs.ReplyReading.{Stands}
use Rattle.http_talk.proofs.Gathering.{stream_stands, ends_with_body, ends_without}
use Rattle.http_talk.proofs.reply.Reply.finish.Goals as goal

pub returns-in-Ok-clause-answer : goal.returns-in-Ok-clause-answer
returns-in-Ok-clause-answer c = λ fed stands.
    let inside = c.self.inside in
    let f = stream_stands inside.stream inside.body.items inside.stopped fed (c.self.invariant c.in_default.is) (subst (Stands fed) (sym c.self.view_is) stands) in
    ends_with_body inside.stream inside.body.items c.from_vec.result fed inside.stopped c.args.self c.format-format.result c.in-Ok.field-0 c.self.view_is c.format-format.ensures c.from_vec.ensures (c.in-Ok.ensures.answer fed inside.body.items f)

pub returns-in-Err-clause-answer : goal.returns-in-Err-clause-answer
returns-in-Err-clause-answer c = λ fed stands.
    let inside = c.self.inside in
    let f = stream_stands inside.stream inside.body.items inside.stopped fed (c.self.invariant c.in_default.is) (subst (Stands fed) (sym c.self.view_is) stands) in
    ends_without c.in-Err.fault inside.stream inside.body.items fed inside.stopped c.args.self c.self.view_is (c.in-Err.ensures.answer fed inside.body.items f)
