use Rattle.std.proofs.Common.{◌<◌, sym, arith, length, eqb-true, false-eqb}
use Rattle.page_model.specs.OpenReading.{stamp_at}
use Rattle.openmetrics_grammar.proofs.TokenSteps.{stamp-at_end, stamp-in_front, stamp-here}
use Rattle.openmetrics_grammar.proofs.numbers.stamp_at.Goals as goal

pub returns-then-is_empty : goal.returns-then-is_empty
returns-then-is_empty c = c.no_stamp.ensures (stamp_at c.args.bytes.now) (stamp-at_end c.args.bytes.now (eqb-true _ 0 (sym c.if-is_empty.ensures)))

pub returns-in-Some : goal.returns-in-Some
returns-in-Some c = c.no_stamp-in-Some.ensures (stamp_at c.args.bytes.now) (stamp-in_front c.args.bytes.now c.in-Some.field-0.now c.in-Some.ensures.value)

pub returns-in-None : goal.returns-in-None
returns-in-None c =
    let some : 0 < length c.args.bytes.now = omega (arith, false-eqb _ 0 c.if-is_empty.ensures) in
    rw (stamp-here c.args.bytes.now some c.in-None.ensures.value) c.written_stamp_at.ensures
