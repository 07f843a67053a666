-- One step more.
use Rattle.std.proofs.Common.{Ok, Err, refl, subst, take, drop, length, ◌-◌}
use Rattle.scrape_client.specs.declared.turn.Turn.{Turn}
use Rattle.scrape_client.specs.PageReplies.{ReadStepAnswer}
use Rattle.scrape_client.proofs.PageReading.{reads_on, reads_last, still_read}
use Rattle.scrape_client.proofs.page_reply.PageReply.feed.Goals as goal

pub turn-requires-clause-reads : goal.turn-requires-clause-reads
turn-requires-clause-reads c = still_read c.args.self.now c.args.block.now c.loop-taken.at c.loop-taken.self c.loop-taken.invariant c.requires.reads

pub loop-taken-preserved : goal.loop-taken-preserved
loop-taken-preserved c =
    let block = c.args.block.now in
    let at = c.loop-taken.at in
    let rest = take (length block - at) (drop at block) in
    (reads_on c.args.self.now block rest at c.loop-taken.self c.turn.new.self c.loop-taken.invariant refl c.in-Ok-On.taken c.turn.ensures.same
    (λ limit fed f. subst (λ (t : Turn). ReadStepAnswer limit fed rest c.loop-taken.self c.turn.new.self (Ok t)) c.in-Ok-On.field-0-is (c.in-Ok-On.ensures.answer limit fed f)) c.requires.reads).0

pub loop-taken-smaller : goal.loop-taken-smaller
loop-taken-smaller c =
    let block = c.args.block.now in
    let at = c.loop-taken.at in
    let rest = take (length block - at) (drop at block) in
    (reads_on c.args.self.now block rest at c.loop-taken.self c.turn.new.self c.loop-taken.invariant refl c.in-Ok-On.taken c.turn.ensures.same
    (λ limit fed f. subst (λ (t : Turn). ReadStepAnswer limit fed rest c.loop-taken.self c.turn.new.self (Ok t)) c.in-Ok-On.field-0-is (c.in-Ok-On.ensures.answer limit fed f)) c.requires.reads).1

pub returns-in-Ok-Over-clause-answer : goal.returns-in-Ok-Over-clause-answer
returns-in-Ok-Over-clause-answer c =
    let block = c.args.block.now in
    let at = c.loop-taken.at in
    let rest = take (length block - at) (drop at block) in
    reads_last c.args.self.now block rest at c.loop-taken.self c.turn.new.self c.loop-taken.invariant refl (Ok c.in-Ok-Over.progress)
    (λ limit fed f. subst (λ (t : Turn). ReadStepAnswer limit fed rest c.loop-taken.self c.turn.new.self (Ok t)) c.in-Ok-Over.field-0-is (c.in-Ok-Over.ensures.answer limit fed f))

pub returns-in-Err-clause-answer : goal.returns-in-Err-clause-answer
returns-in-Err-clause-answer c =
    let block = c.args.block.now in
    let at = c.loop-taken.at in
    let rest = take (length block - at) (drop at block) in
    reads_last c.args.self.now block rest at c.loop-taken.self c.turn.new.self c.loop-taken.invariant refl (Err c.in-Err.fault) (λ limit fed f. c.in-Err.ensures.answer limit fed f)
