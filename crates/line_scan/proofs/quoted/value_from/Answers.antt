use Rattle.std.proofs.Common.{arith, sym, ◌<◌, ◌+◌, get_or, inl, inr}
use Rattle.std.proofs.lemmas.Bool.{cases_eq}
use Rattle.line_scan.proofs.Quotes.{unmarked_front, backslash_before, other_byte, step_small, tail_slice, step_on, quote_here}
use Rattle.line_scan.proofs.Utf8.{utf8_take, utf8_drop}
use Rattle.line_scan.proofs.quoted.value_from.Goals as goal

pub loop-at-init : goal.loop-at-init
loop-at-init c = record {
  within = omega (arith, c.requires.mark.within);
  from = omega arith;
  value = unmarked_front c.args.bytes.now c.args.start (omega (arith, c.requires.mark.within)) c.requires.mark.before;
}

pub returns-then-byte-eq34-clause-value : goal.returns-then-byte-eq34-clause-value
returns-then-byte-eq34-clause-value c =
    rw (tail_slice (c.loop-at.at + 1) c.args.bytes.now (omega arith)) (sym (quote_here c.args.bytes.now c.loop-at.at c.loop-at-test.true c.if-byte-eq34.true c.loop-at.invariant.value))

pub returns-then-byte-eq34-clause-backslash : goal.returns-then-byte-eq34-clause-backslash
returns-then-byte-eq34-clause-backslash c =
    let behind : c.args.start < c.loop-at.at = elim (cases_eq c.args.start c.loop-at.at) [
      | inl same ↦ absurd (let k = rw same at c.requires.backslash in omega (arith, k, c.if-byte-eq34.true))
      | inr apart ↦ omega (arith, c.loop-at.invariant.from, apart)
    ] in
    sym (backslash_before c.args.bytes.now c.args.start c.loop-at.at behind (omega (arith, c.loop-at-test.true)) c.requires.backslash)

pub returns-then-byte-eq34-clause-utf8 : goal.returns-then-byte-eq34-clause-utf8
returns-then-byte-eq34-clause-utf8 c = λ u. (
  utf8_take c.args.bytes.now c.loop-at.at c.loop-at-test.true (omega arith) u,
  rw (tail_slice (c.loop-at.at + 1) c.args.bytes.now (omega arith)) (utf8_drop c.args.bytes.now c.loop-at.at c.loop-at-test.true (omega arith) u),
)

pub loop-at-preserved : goal.loop-at-preserved
loop-at-preserved c = record {
  within = omega (arith, c.step_over-at.ensures, step_small (get_or c.args.bytes.now c.loop-at.at 0));
  from = omega arith;
  value = rw c.step_over-at.ensures (step_on c.args.bytes.now c.loop-at.at c.loop-at-test.true (other_byte _ 34 c.if-byte-eq34.false) c.loop-at.invariant.value);
}
