use Rattle.std.proofs.Common.{◌≡◌, ◌∙◌, ℕ, ap, length}
use Rattle.bridge_ports.specs.Talks.{made_ready, begun_at}
use Rattle.http_talk.specs.Requests.{get_request}
use Rattle.scrape_client.proofs.Scrapes.{is_scrape, exchange_by}
use Rattle.scrape_client.proofs.one_scrape.scrape_again.Goals as goal

pub returns-in-Ok-exchange : goal.returns-in-Ok-exchange
returns-in-Ok-exchange g c =
    let w = g.W.Wire.state c.args.wire.now in
    let long : c.len.result ≡ length c.as_slice.result.now = cc (c.len.ensures, c.as_slice.ensures) in
    let started : g.W.Wire.state c.begin-reading.new.self ≡ begun_at c.begin-reading.result (made_ready 1 (length c.as_slice.result.now) (g.W.Wire.state c.args.wire.now)) =
    c.begin-reading.ensures ∙ ap (begun_at c.begin-reading.result) (c.in-Ok-ready.ensures.done ∙ ap (λ (n : ℕ). made_ready 1 n (g.W.Wire.state c.args.wire.now)) long) in
    let x = c.in-Ok-exchange.ensures w c.begin-reading.result started in
    let request : c.as_slice.result.now ≡ get_request c.args.target.now.address = cc (c.as_slice.ensures, c.in-Ok.ensures, ap get_request c.address.ensures.same) in
    is_scrape c.args.limit c.args.max_page c.begin-reading.result c.args.target.now.address c.as_slice.result.now w (g.W.Wire.state c.exchange.new.wire) c.in-Ok-exchange.outcome
    request (exchange_by c.in-Ok-new.reply.limit c.args.limit c.in-Ok-new.reply.stream.most c.args.max_page c.begin-reading.result c.as_slice.result.now w (g.W.Wire.state c.exchange.new.wire) c.in-Ok-exchange.outcome c.in-Ok-new.ensures.1.limit_is c.in-Ok-new.ensures.0 x)
