-- The end of a reply.
use Rattle.http_talk.specs.Streams.{told_of_head}
use Rattle.scrape_client.specs.PageReplies.{most_of}
use Rattle.scrape_client.proofs.PageReading.{finish_begun, finish_page, finish_peer, finish_early}
use Rattle.scrape_client.proofs.page_reply.PageReply.finish.Goals as goal

pub end-requires : goal.end-requires
end-requires c =
    finish_begun c.args.self c.in-Ok.field-0 c.requires (c.in-Ok.ensures.answer c.requires.0 c.requires.1.given c.requires.1.flows)

pub returns-in-Ok-clause-outcome : goal.returns-in-Ok-clause-outcome
returns-in-Ok-clause-outcome c = λ limit fed x known judged.
    finish_page limit fed c.args.self c.in-Ok.field-0 c.end.result x (c.in-Ok.ensures.answer fed x.given x.flows) c.end.ensures known judged

pub returns-in-Ok-clause-peer : goal.returns-in-Ok-clause-peer
returns-in-Ok-clause-peer c =
    let some = c.requires in
    finish_peer c.args.self.limit some.0 c.args.self c.in-Ok.field-0 c.end.result some.1 (c.in-Ok.ensures.answer some.0 some.1.given some.1.flows) c.end.ensures

pub returns-in-Err-clause-outcome : goal.returns-in-Err-clause-outcome
returns-in-Err-clause-outcome c = λ limit fed x known judged.
    finish_early c.in-Err.fault limit (most_of c.args.self) fed x.given (told_of_head c.args.self.stream) c.fault_outcome.result (c.in-Err.ensures.answer fed x.given x.flows) c.fault_outcome.ensures.outcome known judged
