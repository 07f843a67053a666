use Rattle.std.proofs.Common.{refl, sym, subst}
use Rattle.bridge_ports.specs.declared.talk.End.TheVariants as ends
use Rattle.page_model.specs.declared.event.Cause.TheVariants as causes
use Rattle.http_talk.specs.declared.fault.Progress.{Progress}
use Rattle.http_talk.specs.ReplyReading.{IsRefusal}
use Rattle.scrape_client.specs.PageReplies.{IsPieceRead, most_of}
use Rattle.std.specs.Prelude.{IfOk}
use Rattle.bridge_ports.specs.declared.talk.End.{End}
use Rattle.scrape_client.specs.Exchanges.{IsOutcomeAt}
use Rattle.scrape_client.proofs.Exchanging.{some_read, not_left, whole_at, failed_at_end, ended_at, refused_at}
use Rattle.scrape_client.proofs.one_scrape.outcome_at.Goals as goal

pub finish-requires : goal.finish-requires
finish-requires c =
    let t = subst (λ (p : Progress). IsPieceRead c.args.reply.limit c.args.got.now c.feed_all.new.self p) c.in-Ok-Whole.field-0-is (c.in-Ok-Whole.ensures.answer c.args.reply.limit _ c.requires.fresh) in
    some_read c.args.reply.limit c.args.got.now c.feed_all.new.self t.reads

pub finish-requires-in-Ended : goal.finish-requires-in-Ended
finish-requires-in-Ended c =
    let t = subst (λ (p : Progress). IsPieceRead c.args.reply.limit c.args.got.now c.feed_all.new.self p) c.in-Ok-More.field-0-is (c.in-Ok-More.ensures.answer c.args.reply.limit _ c.requires.fresh) in
    some_read c.args.reply.limit c.args.got.now c.feed_all.new.self t.reads

pub returns-in-Ok-Whole : goal.returns-in-Ok-Whole
returns-in-Ok-Whole c =
    let t = subst (λ (p : Progress). IsPieceRead c.args.reply.limit c.args.got.now c.feed_all.new.self p) c.in-Ok-Whole.field-0-is (c.in-Ok-Whole.ensures.answer c.args.reply.limit _ c.requires.fresh) in
    whole_at c.finish.result c.args.reply.limit (most_of c.args.reply) c.args.got.now c.feed_all.new.self c.args.end c.feed_all.ensures.same t (c.finish.ensures.outcome c.args.reply.limit c.args.got.now t.reads t.known t.judged_so)

pub returns-in-ConnectFailed : goal.returns-in-ConnectFailed
returns-in-ConnectFailed c =
    let t = subst (λ (p : Progress). IsPieceRead c.args.reply.limit c.args.got.now c.feed_all.new.self p) c.in-Ok-More.field-0-is (c.in-Ok-More.ensures.answer c.args.reply.limit _ c.requires.fresh) in
    rw (c.in-ConnectFailed.is, c.fail.ensures) (failed_at_end c.args.reply.limit (most_of c.args.reply) c.args.got.now c.feed_all.new.self ends.ConnectFailed causes.Connect c.feed_all.ensures.same t refl)

pub returns-in-WriteFailed : goal.returns-in-WriteFailed
returns-in-WriteFailed c =
    let t = subst (λ (p : Progress). IsPieceRead c.args.reply.limit c.args.got.now c.feed_all.new.self p) c.in-Ok-More.field-0-is (c.in-Ok-More.ensures.answer c.args.reply.limit _ c.requires.fresh) in
    rw (c.in-WriteFailed.is, c.fail-in-WriteFailed.ensures) (failed_at_end c.args.reply.limit (most_of c.args.reply) c.args.got.now c.feed_all.new.self ends.WriteFailed causes.Write c.feed_all.ensures.same t refl)

pub returns-in-ReadFailed : goal.returns-in-ReadFailed
returns-in-ReadFailed c =
    let t = subst (λ (p : Progress). IsPieceRead c.args.reply.limit c.args.got.now c.feed_all.new.self p) c.in-Ok-More.field-0-is (c.in-Ok-More.ensures.answer c.args.reply.limit _ c.requires.fresh) in
    rw (c.in-ReadFailed.is, c.fail-in-ReadFailed.ensures) (failed_at_end c.args.reply.limit (most_of c.args.reply) c.args.got.now c.feed_all.new.self ends.ReadFailed causes.Read c.feed_all.ensures.same t refl)

pub returns-in-Err : goal.returns-in-Err
returns-in-Err c =
    let r = c.in-Err.ensures.answer c.args.reply.limit _ c.requires.fresh in
    refused_at c.refuse.result c.args.reply.limit (most_of c.args.reply) c.args.got.now c.args.end c.in-Err.fault (subst (λ m. IsRefusal m c.args.got.now c.in-Err.fault) c.feed_all.ensures.same r) c.refuse.ensures

pub returns-in-Ended : goal.returns-in-Ended
returns-in-Ended c =
    let t = subst (λ (p : Progress). IsPieceRead c.args.reply.limit c.args.got.now c.feed_all.new.self p) c.in-Ok-More.field-0-is (c.in-Ok-More.ensures.answer c.args.reply.limit _ c.requires.fresh) in
    let x = ended_at c.finish-in-Ended.result c.args.reply.limit (most_of c.args.reply) c.args.got.now c.feed_all.new.self _ c.feed_all.ensures.same t (c.finish-in-Ended.ensures.outcome c.args.reply.limit c.args.got.now t.reads t.known t.judged_so) in
    subst (λ (e : End). IfOk c.finish-in-Ended.result (IsOutcomeAt c.args.reply.limit (most_of c.args.reply) c.args.got.now e)) (sym (not_left c.args.end c.in-Ended.is c.requires.ended)) x
