use Rattle.std.proofs.Common.{rules, ◌≡◌, ◌∙◌, ◌+◌, ◌<◌, ◌++◌, ℕ, take, length, sym, subst, arith}
use Rattle.std.proofs.lemmas.List.{length-take-le}
use Rattle.bridge_ports.specs.Talks.{after_read}
use Rattle.http_talk.specs.declared.fault.Progress.{Progress}
use Rattle.scrape_client.specs.PageReplies.{IsPieceRead, most_of}
use Rattle.http_talk.specs.Replies.{IsJudged}
use Rattle.scrape_client.proofs.Exchanging.{reads_nothing, reads_more, reads_few, reads_keep, whole_read, refused_read, ended_read, has_read, some_read, peer_is}
use Rattle.scrape_client.proofs.talk.read_reply.Goals as goal

pub loop-reply-init : goal.loop-reply-init
loop-reply-init g c = reads_nothing c.args.reply.limit (g.W.Wire.state c.args.wire.now) c.args.reply c.requires.fresh

pub feed-requires-clause-reads : goal.feed-requires-clause-reads
feed-requires-clause-reads g c = has_read c.args.reply.limit (most_of c.args.reply) (g.W.Wire.state c.args.wire.now) (g.W.Wire.state c.loop-reply.wire) c.loop-reply.reply c.loop-reply.got c.loop-reply.invariant

pub finish-requires : goal.finish-requires
finish-requires g c = has_read c.args.reply.limit (most_of c.args.reply) (g.W.Wire.state c.args.wire.now) (g.W.Wire.state c.loop-reply.wire) c.loop-reply.reply c.loop-reply.got c.loop-reply.invariant

pub finish-requires-in-Ok-Whole : goal.finish-requires-in-Ok-Whole
finish-requires-in-Ok-Whole g c =
    let x = c.loop-reply.invariant in
    let piece = take c.in-Ok.count c.read.new.into in
    let t = subst (λ (p : Progress). IsPieceRead c.args.reply.limit (x.fed ++ piece) c.feed.new.self p) c.in-Ok-Whole.field-0-is (c.in-Ok-Whole.ensures.answer c.args.reply.limit x.fed x.reads) in
    some_read c.args.reply.limit (x.fed ++ piece) c.feed.new.self t.reads

pub loop-reply-preserved : goal.loop-reply-preserved
loop-reply-preserved g c =
    let x = c.loop-reply.invariant in
    let piece = take c.in-Ok.count c.read.new.into in
    let full : length (take c.in-Ok.count c.read.new.into) ≡ c.in-Ok.count = length-take-le c.in-Ok.count c.read.new.into (omega (arith, c.in-Ok.ensures.bound.0)) in
    let long : length (take c.in-Ok.count c.read.new.into) ≡ c.from-got.result = full ∙ sym c.from-got.ensures in
    let some : 0 < length (take c.in-Ok.count c.read.new.into) = omega (arith, full) in
    let t = subst (λ (p : Progress). IsPieceRead c.args.reply.limit (x.fed ++ piece) c.feed.new.self p) c.in-Ok-More.field-0-is (c.in-Ok-More.ensures.answer c.args.reply.limit x.fed x.reads) in
    reads_more c.args.reply.limit (most_of c.args.reply) (g.W.Wire.state c.args.wire.now) (g.W.Wire.state c.loop-reply.wire) (g.W.Wire.state c.read.new.self) c.loop-reply.reply c.feed.new.self
    c.loop-reply.got c.from-got.result piece x some long c.in-Ok.ensures.done c.feed.ensures.same t

pub overflow_add-got : goal.overflow_add-got
overflow_add-got g c =
    let x = c.loop-reply.invariant in
    let piece = take c.in-Ok.count c.read.new.into in
    let full : length (take c.in-Ok.count c.read.new.into) ≡ c.in-Ok.count = length-take-le c.in-Ok.count c.read.new.into (omega (arith, c.in-Ok.ensures.bound.0)) in
    let long : length (take c.in-Ok.count c.read.new.into) ≡ c.from-got.result = full ∙ sym c.from-got.ensures in
    let some : 0 < length (take c.in-Ok.count c.read.new.into) = omega (arith, full) in
    let t = subst (λ (p : Progress). IsPieceRead c.args.reply.limit (x.fed ++ piece) c.feed.new.self p) c.in-Ok-More.field-0-is (c.in-Ok-More.ensures.answer c.args.reply.limit x.fed x.reads) in
    let next = reads_more c.args.reply.limit (most_of c.args.reply) (g.W.Wire.state c.args.wire.now) (g.W.Wire.state c.loop-reply.wire) (g.W.Wire.state c.read.new.self) c.loop-reply.reply c.feed.new.self
    c.loop-reply.got c.from-got.result piece x some long c.in-Ok.ensures.done c.feed.ensures.same t in
    let few = reads_few c.args.reply.limit (most_of c.args.reply) (g.W.Wire.state c.args.wire.now) (g.W.Wire.state c.read.new.self) c.feed.new.self (c.loop-reply.got + c.from-got.result) next in
    omega (arith, few, c.requires.fresh.short)

pub loop-reply-smaller : goal.loop-reply-smaller
loop-reply-smaller g c =
    let x = c.loop-reply.invariant in
    let piece = take c.in-Ok.count c.read.new.into in
    let full : length (take c.in-Ok.count c.read.new.into) ≡ c.in-Ok.count = length-take-le c.in-Ok.count c.read.new.into (omega (arith, c.in-Ok.ensures.bound.0)) in
    let long : length (take c.in-Ok.count c.read.new.into) ≡ c.from-got.result = full ∙ sym c.from-got.ensures in
    let some : 0 < length (take c.in-Ok.count c.read.new.into) = omega (arith, full) in
    let t = subst (λ (p : Progress). IsPieceRead c.args.reply.limit (x.fed ++ piece) c.feed.new.self p) c.in-Ok-More.field-0-is (c.in-Ok-More.ensures.answer c.args.reply.limit x.fed x.reads) in
    let next = reads_more c.args.reply.limit (most_of c.args.reply) (g.W.Wire.state c.args.wire.now) (g.W.Wire.state c.loop-reply.wire) (g.W.Wire.state c.read.new.self) c.loop-reply.reply c.feed.new.self
    c.loop-reply.got c.from-got.result piece x some long c.in-Ok.ensures.done c.feed.ensures.same t in
    let few = reads_few c.args.reply.limit (most_of c.args.reply) (g.W.Wire.state c.args.wire.now) (g.W.Wire.state c.read.new.self) c.feed.new.self (c.loop-reply.got + c.from-got.result) next in
    omega (arith, few, some, long)

pub returns-in-Ok-Whole : goal.returns-in-Ok-Whole
returns-in-Ok-Whole g c =
    let x = c.loop-reply.invariant in
    let piece = take c.in-Ok.count c.read.new.into in
    let full : length (take c.in-Ok.count c.read.new.into) ≡ c.in-Ok.count = length-take-le c.in-Ok.count c.read.new.into (omega (arith, c.in-Ok.ensures.bound.0)) in
    let some : 0 < length (take c.in-Ok.count c.read.new.into) = omega (arith, full) in
    let t = subst (λ (p : Progress). IsPieceRead c.args.reply.limit (x.fed ++ piece) c.feed.new.self p) c.in-Ok-Whole.field-0-is (c.in-Ok-Whole.ensures.answer c.args.reply.limit x.fed x.reads) in
    let kept = reads_keep c.args.reply.limit (most_of c.args.reply) (g.W.Wire.state c.args.wire.now) (g.W.Wire.state c.loop-reply.wire) c.loop-reply.reply c.loop-reply.got x in
    let done = c.finish-in-Ok-Whole in
    whole_read c.args.reply.limit (most_of c.args.reply) (g.W.Wire.state c.args.wire.now) (g.W.Wire.state c.loop-reply.wire) (g.W.Wire.state c.read.new.self) (g.W.Wire.state c.leave.new.self)
    c.loop-reply.reply c.feed.new.self c.loop-reply.got piece done.result x (kept.1 ∙ c.requires.connected) some c.in-Ok.ensures.done c.leave.ensures c.feed.ensures.same t
    (done.ensures.outcome c.args.reply.limit (x.fed ++ piece) t.reads t.known t.judged_so)
    (peer_is done.result done.ensures.peer)

pub returns-in-Err-feed : goal.returns-in-Err-feed
returns-in-Err-feed g c =
    let x = c.loop-reply.invariant in
    let piece = take c.in-Ok.count c.read.new.into in
    let full : length (take c.in-Ok.count c.read.new.into) ≡ c.in-Ok.count = length-take-le c.in-Ok.count c.read.new.into (omega (arith, c.in-Ok.ensures.bound.0)) in
    let some : 0 < length (take c.in-Ok.count c.read.new.into) = omega (arith, full) in
    let kept = reads_keep c.args.reply.limit (most_of c.args.reply) (g.W.Wire.state c.args.wire.now) (g.W.Wire.state c.loop-reply.wire) c.loop-reply.reply c.loop-reply.got x in
    refused_read c.args.reply.limit (most_of c.args.reply) (g.W.Wire.state c.args.wire.now) (g.W.Wire.state c.loop-reply.wire) (g.W.Wire.state c.read.new.self) (g.W.Wire.state c.leave-in-Err-feed.new.self)
    c.loop-reply.reply c.feed.new.self c.loop-reply.got piece c.in-Err-feed.fault c.refuse.result x (kept.1 ∙ c.requires.connected) some c.in-Ok.ensures.done c.leave-in-Err-feed.ensures c.feed.ensures.same
    (c.in-Err-feed.ensures.answer c.args.reply.limit x.fed x.reads) c.refuse.ensures

pub returns-in-Ok-eq0 : goal.returns-in-Ok-eq0
returns-in-Ok-eq0 g c =
    let x = c.loop-reply.invariant in
    let none : c.in-Ok-eq0.field-0 ≡ 0 = search rules in
    ended_read c.args.reply.limit (most_of c.args.reply) (g.W.Wire.state c.args.wire.now) (g.W.Wire.state c.loop-reply.wire) (g.W.Wire.state c.read.new.self) c.loop-reply.reply c.loop-reply.got c.finish.result x
    (subst (λ (n : ℕ). g.W.Wire.state c.read.new.self ≡ after_read (take n c.read.new.into) (g.W.Wire.state c.loop-reply.wire)) none c.in-Ok-eq0.ensures.done) (c.finish.ensures.outcome c.args.reply.limit x.fed x.reads x.known (subst (λ (m : ℕ). IsJudged m x.fed x.known) (sym x.most_is) x.judged_so))
    (peer_is c.finish.result c.finish.ensures.peer)
