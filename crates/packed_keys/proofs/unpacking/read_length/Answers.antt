use Rattle.packed_keys.proofs.Read.{reading_begins, reading_goes_on, reading_ends, reading_stops}
use Rattle.packed_keys.proofs.unpacking.read_length.Goals as goal

pub loop-first-init : goal.loop-first-init
loop-first-init c = reading_begins c.args.bytes.now

pub loop-first-preserved : goal.loop-first-preserved
loop-first-preserved c = reading_goes_on c.args.bytes.now c.loop-first.left.now c.in-Some.rest.now c.loop-first.length c.saturating_add-length.result c.in-Some.first.now c.loop-first.invariant c.in-Some.ensures.cases.0 c.if-first.false c.saturating_add-length.ensures

pub returns-then-first-clause-length : goal.returns-then-first-clause-length
returns-then-first-clause-length c = (reading_ends c.args.bytes.now c.loop-first.left.now c.in-Some.rest.now c.loop-first.length c.saturating_add-length.result c.in-Some.first.now c.loop-first.invariant c.in-Some.ensures.cases.0 c.if-first.true c.saturating_add-length.ensures).0

pub returns-then-first-clause-rest : goal.returns-then-first-clause-rest
returns-then-first-clause-rest c = (reading_ends c.args.bytes.now c.loop-first.left.now c.in-Some.rest.now c.loop-first.length c.saturating_add-length.result c.in-Some.first.now c.loop-first.invariant c.in-Some.ensures.cases.0 c.if-first.true c.saturating_add-length.ensures).1

pub returns-clause-length : goal.returns-clause-length
returns-clause-length c = (reading_stops c.args.bytes.now c.loop-first.left.now c.loop-first.length c.loop-first.invariant c.in_default.ensures.cases).0

pub returns-clause-rest : goal.returns-clause-rest
returns-clause-rest c = (reading_stops c.args.bytes.now c.loop-first.left.now c.loop-first.length c.loop-first.invariant c.in_default.ensures.cases).1
