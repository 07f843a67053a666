use Rattle.std.proofs.Common.{◌∙◌}
use Rattle.std.proofs.lemmas.Result.{IfOk-weaker}
use Rattle.page_server.specs.Serving.{QueryAsks, RequestAsks}
use Rattle.page_server.proofs.Targets.{page_asked, other_word, same_word}
use Rattle.page_server.proofs.target.request_asks.Goals as goal

pub returns-then-not-is_word : goal.returns-then-not-is_word
returns-then-not-is_word c = other_word c.args.method.now _ c.is_word.result c.is_word.ensures c.if-not-is_word.true

pub returns-then-not-is_word-2 : goal.returns-then-not-is_word-2
returns-then-not-is_word-2 c = (
  same_word c.args.method.now _ c.is_word.result c.is_word.ensures c.if-not-is_word.false,
  λ e. other_word c.parts_of-parts.result.path.now _ c.is_word-2.result c.is_word-2.ensures c.if-not-is_word-2.true (c.parts_of-parts.ensures.path ∙ e),
)

pub returns : goal.returns
returns c =
    let get = same_word c.args.method.now _ c.is_word.result c.is_word.ensures c.if-not-is_word.false in
    let federate = same_word c.parts_of-parts.result.path.now _ c.is_word-2.result c.is_word-2.ensures c.if-not-is_word-2.false in
    IfOk-weaker c.query_asks.result (QueryAsks c.parts_of-parts.result.query.now) (RequestAsks c.args.method.now c.args.target.now)
    (λ what is. page_asked c.args.method.now c.args.target.now c.parts_of-parts.result.path.now c.parts_of-parts.result.query.now what get c.parts_of-parts.ensures.path federate c.parts_of-parts.ensures.query is)
    c.query_asks.ensures
