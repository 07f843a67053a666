use Rattle.std.proofs.Common.{◌<◌, sym, arith, length, eqb-true, false-eqb}
use Rattle.openmetrics_grammar.proofs.SampleSteps.{no_exemplar_at, exemplar-no_list, marked-none, marked-found}
use Rattle.openmetrics_grammar.proofs.exemplar.exemplar_of.Goals as goal

pub returns-then-is_empty : goal.returns-then-is_empty
returns-then-is_empty c = no_exemplar_at c.args.bytes.now (eqb-true _ 0 (sym c.if-is_empty.ensures))

pub returns-in_default : goal.returns-in_default
returns-in_default c =
    let some : 0 < length c.args.bytes.now = omega (arith, false-eqb _ 0 c.if-is_empty.ensures) in
    exemplar-no_list c.args.bytes.now some c.in_default.ensures.value

pub returns-in-Some-2 : goal.returns-in-Some-2
returns-in-Some-2 c =
    let some : 0 < length c.args.bytes.now = omega (arith, false-eqb _ 0 c.if-is_empty.ensures) in
    marked-found c.args.bytes.now c.in-Some.inner.now some c.in-Some.ensures.value c.in-Some-2.exemplar (rw c.in-Some-2.is at c.in_ok-exemplar.ensures)

pub returns-in-None : goal.returns-in-None
returns-in-None c =
    let some : 0 < length c.args.bytes.now = omega (arith, false-eqb _ 0 c.if-is_empty.ensures) in
    marked-none c.args.bytes.now c.in-Some.inner.now some c.in-Some.ensures.value (rw c.in-None.is at c.in_ok-exemplar.ensures)
