use Rattle.std.proofs.Common.{List, ℕ, subst}
use Rattle.series_table.specs.HttpTalks.{talking}
use Rattle.page_server.specs.declared.status.ReplyStatus.{ReplyStatus}
use Rattle.page_server.specs.Serving.{ReplyAnswer}
use Rattle.page_server.proofs.Laws.{replied, not_heard}
use Rattle.scraper_pool.specs.Federating.{IsSelectedPage}
use Rattle.scraper_pool.proofs.pool.Pool.serve_one.Goals as goal

pub returns-in-Err : goal.returns-in-Err
returns-in-Err g c = not_heard (IsSelectedPage talking g.N.RunName.run) (g.K.Conn.seen c.args.conn.now) (g.K.Conn.seen c.hear_request.new.conn) c.in-Err.fault c.in-Err.ensures

pub returns : goal.returns
returns g c =
    let old = g.K.Conn.seen c.args.conn.now in
    let mid = g.K.Conn.seen c.hear_request.new.conn in
    let new = g.K.Conn.seen c.say_reply.new.conn in
    replied (IsSelectedPage talking g.N.RunName.run) old mid new c.in-Ok.asked c.in-Ok-page_for.page.items c.say_reply.result c.in-Ok.ensures c.in-Ok-page_for.ensures
    (subst (λ (s : ReplyStatus). ReplyAnswer s c.in-Ok-page_for.page.items mid new c.say_reply.result) c.status.ensures
    (subst (λ (page : List ℕ). ReplyAnswer c.status.result page mid new c.say_reply.result) c.as_slice.ensures.value c.say_reply.ensures))
