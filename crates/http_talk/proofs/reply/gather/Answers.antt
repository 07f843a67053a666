-- One turn more.
use Rattle.std.proofs.Common.{Ok, refl, subst, take, drop, length, ◌-◌}
use Rattle.http_talk.specs.Streams.{FrontAnswer}
use Rattle.http_talk.proofs.Gathering.{gathers_on}
use Rattle.http_talk.proofs.reply.gather.Goals as goal

pub loop-taken-preserved : goal.loop-taken-preserved
loop-taken-preserved c =
    let block = c.args.block.now in
    let at = c.loop-taken.at in
    let rest = take (length block - at) (drop at block) in
    (gathers_on c.args.stream.now c.args.body.now.items block rest at c.loop-taken.stream c.turn.new.stream c.loop-taken.body.items c.turn.new.body.items c.loop-taken.invariant refl c.in-Ok-On.taken c.turn.ensures.same
    (λ fed f. subst (λ t. FrontAnswer fed rest c.turn.new.body.items c.loop-taken.stream c.turn.new.stream (Ok t)) c.in-Ok-On.field-0-is (c.in-Ok-On.ensures.answer fed f)) c.requires.flowed).0
