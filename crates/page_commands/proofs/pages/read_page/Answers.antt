use Rattle.std.proofs.Common.{◌∙◌, refl, arith}
use Rattle.page_reader.specs.AnyReading.{format_of}
use Rattle.page_commands.proofs.PageLaws.{fed_nothing, fed_all, fed_too_much, fed_more, room_left, read_failed, memory_wanted, too_long_answer}
use Rattle.program_words.proofs.Laws.{stop_leaves}
use Rattle.page_commands.proofs.pages.read_page.Goals as goal

pub loop-count-init : goal.loop-count-init
loop-count-init g c = (fed_nothing _ _ _ c.requires, refl)

pub returns-in-Err-clause-input : goal.returns-in-Err-clause-input
returns-in-Err-clause-input g c =
    read_failed _ _ _ _ _ _ _ c.loop-count.taken _ c.loop-count.invariant.0 c.loop-count.invariant.1 c.in-Err.ensures.bytes c.in-Err.ensures.cause.failed

pub returns-then-count-eq0-clause-fed : goal.returns-then-count-eq0-clause-fed
returns-then-count-eq0-clause-fed g c =
    (fed_all _ _ _ _ c.loop-count.taken c.in-Ok.count c.read.new.into _ c.loop-count.invariant.0 c.in-Ok.ensures.bytes.0 c.if-count-eq0.true
    (c.in-Ok.ensures.bytes.1 c.if-count-eq0.true (omega (arith, c.read.auto.into)))).0

pub returns-then-count-eq0-clause-input : goal.returns-then-count-eq0-clause-input
returns-then-count-eq0-clause-input g c = (
  (fed_all _ _ _ _ c.loop-count.taken c.in-Ok.count c.read.new.into _ c.loop-count.invariant.0 c.in-Ok.ensures.bytes.0 c.if-count-eq0.true
      (c.in-Ok.ensures.bytes.1 c.if-count-eq0.true (omega (arith, c.read.auto.into)))).1,
  c.in-Ok.ensures.cause.kept ∙ c.loop-count.invariant.1,
)

pub returns-then-count-taken-clause-input : goal.returns-then-count-taken-clause-input
returns-then-count-taken-clause-input g c = (
  fed_too_much _ _ _ _ c.loop-count.taken c.in-Ok.count c.read.new.into _ c.loop-count.invariant.0 c.in-Ok.ensures.bytes.0 (omega (arith, c.in-Ok.ensures.bound.0))
      (omega arith) (omega (arith, c.in-Ok.ensures.bound.0, c.read.auto.into)),
  c.in-Ok.ensures.cause.kept ∙ c.loop-count.invariant.1,
)

pub returns-then-count-taken-clause-stop : goal.returns-then-count-taken-clause-stop
returns-then-count-taken-clause-stop g c = λ format text_of. too_long_answer format _ _ text_of (returns-then-count-taken-clause-input g c).0

pub take-requires : goal.take-requires
take-requires g c = room_left _ _ _ c.loop-count.taken _ _ c.loop-count.page c.loop-count.invariant.0 (omega arith)

pub returns-in_err-page-clause-input : goal.returns-in_err-page-clause-input
returns-in_err-page-clause-input g c =
    stop_leaves _ _ _ _ _ _ c.in_err-page.field-0.0 c.from_residual.ensures.1
    (rw c.in_err-page.ensures.memory (
    memory_wanted _ _ _ _ _ _ _ c.loop-count.taken c.in-Ok.count c.read.new.into _ c.loop-count.invariant.0 c.loop-count.invariant.1 c.in-Ok.ensures.bytes.0
    (omega (arith, c.in-Ok.ensures.bound.0)) (omega arith) c.in-Ok.ensures.cause.kept))

pub loop-count-preserved : goal.loop-count-preserved
loop-count-preserved g c = (
  fed_more _ _ _ _ c.loop-count.taken c.in-Ok.count c.read.new.into _ _ c.loop-count.invariant.0 c.in-Ok.ensures.bytes.0 (omega (arith, c.in-Ok.ensures.bound.0)) (omega arith)
      (c.in_ok-page.ensures.fed (format_of c.args.reader) c.loop-count.invariant.0.took.bytes c.loop-count.invariant.0.fed),
  c.in-Ok.ensures.cause.kept ∙ c.loop-count.invariant.1,
)
