use Rattle.std.specs.Prelude.{string_bytes}
use Rattle.program_words.proofs.ReplayWords.{selector_here, one_more_here}
use Rattle.program_words.proofs.words.replay.selectors_of.Goals as goal

pub unreachable-requires : goal.unreachable-requires
unreachable-requires c =
    selector_here string_bytes c.args.words.now c.loop-word.word-index c.word-item.result c.as_bytes.result.now c.requires c.loop-word-test.true c.word-item.is c.as_bytes.ensures.value
    (rw c.in-Err-Form.field-0-is at c.in-Err-Form.ensures.form)

pub loop-word-preserved : goal.loop-word-preserved
loop-word-preserved c =
    one_more_here string_bytes c.args.words.now c.loop-word.word-index c.word-item.result c.as_bytes.result.now c.loop-word.selectors.items c.push.new.self.items c.in-Ok.selector
    c.loop-word-test.true c.word-item.is c.as_bytes.ensures.value c.loop-word.invariant c.in-Ok.ensures.ok c.in_ok-push-in-Ok.ensures.items
