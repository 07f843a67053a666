-- What the stream tells is handed to the page.
use Rattle.std.proofs.Common.{Ok, refl, subst}
use Rattle.http_talk.specs.declared.flow.Flow.{Flow}
use Rattle.http_talk.specs.Streams.{FlowAnswer}
use Rattle.scrape_client.proofs.PageReading.{turn_body, turn_whole, body_room}
use Rattle.scrape_client.proofs.page_reply.PageReply.turn.Goals as goal

pub take-requires : goal.take-requires
take-requires c =
    let old = c.args.self.now in
    let x = c.requires.reads.1 in
    let a = subst (λ (f : Flow). FlowAnswer c.requires.reads.0 x.given c.args.piece.now c.feed.new.taken old.stream c.feed.new.self (Ok f)) c.in-Ok-Body.field-0-is (c.in-Ok-Body.ensures.answer c.requires.reads.0 x.given x.flows) in
    body_room old.limit c.requires.reads.0 c.args.piece.now c.in-Ok-Body.from c.in-Ok-Body.to c.feed.new.taken old c.feed.new.self x c.feed.ensures.same c.feed.ensures.taken a

pub returns-in-Ok-Body-clause-answer : goal.returns-in-Ok-Body-clause-answer
returns-in-Ok-Body-clause-answer c = λ limit fed x.
    let old = c.args.self.now in
    let a = subst (λ (f : Flow). FlowAnswer fed x.given c.args.piece.now c.feed.new.taken old.stream c.feed.new.self (Ok f)) c.in-Ok-Body.field-0-is (c.in-Ok-Body.ensures.answer fed x.given x.flows) in
    turn_body limit fed c.args.piece.now c.in-Ok-Body.from c.in-Ok-Body.to c.feed.new.taken old (record old { stream = c.feed.new.self; page = c.take.new.self }) x refl c.feed.ensures.same c.feed.ensures.taken
    (λ format y. c.take.ensures limit format x.given y) a

pub returns-in-Ok-Whole-clause-answer : goal.returns-in-Ok-Whole-clause-answer
returns-in-Ok-Whole-clause-answer c = λ limit fed x.
    let old = c.args.self.now in
    let a = subst (λ (f : Flow). FlowAnswer fed x.given c.args.piece.now c.feed.new.taken old.stream c.feed.new.self (Ok f)) c.in-Ok-Whole.field-0-is (c.in-Ok-Whole.ensures.answer fed x.given x.flows) in
    turn_whole limit fed c.args.piece.now c.feed.new.taken old (record old { stream = c.feed.new.self }) x refl c.feed.ensures.same refl a
