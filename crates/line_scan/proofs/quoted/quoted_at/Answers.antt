use Rattle.std.proofs.Common.{◌≡◌, ◌+◌, arith, sym, take, get_or}
use Rattle.line_scan.proofs.Quotes.{unmarked_front, no_backslash, mark_quote, tail_slice, quote_here, unmarked}
use Rattle.line_scan.proofs.Utf8.{utf8_take, utf8_drop}
use Rattle.line_scan.proofs.quoted.quoted_at.Goals as goal

pub returns-in_default-clause-value : goal.returns-in_default-clause-value
returns-in_default-clause-value c = sym (unmarked c.args.bytes.now c.in_default.ensures)

pub returns-clause-value : goal.returns-clause-value
returns-clause-value c =
    let m = c.in-Some.ensures in
    rw (tail_slice (c.in-Some.at + 1) c.args.bytes.now (omega (arith, m.within)))
    (sym (quote_here c.args.bytes.now c.in-Some.at m.within (mark_quote _ m.mark c.if-bytes-at-eq92.false) (unmarked_front c.args.bytes.now c.in-Some.at (omega (arith, m.within)) m.before)))

pub returns-clause-backslash : goal.returns-clause-backslash
returns-clause-backslash c = sym (no_backslash (take c.in-Some.at c.args.bytes.now) c.in-Some.ensures.before)

pub returns-clause-utf8 : goal.returns-clause-utf8
returns-clause-utf8 c = λ u.
    let m = c.in-Some.ensures in
    let quote : get_or c.args.bytes.now c.in-Some.at 0 ≡ 34 = mark_quote _ m.mark c.if-bytes-at-eq92.false in (
      utf8_take c.args.bytes.now c.in-Some.at m.within (omega (arith, quote)) u,
      rw (tail_slice (c.in-Some.at + 1) c.args.bytes.now (omega (arith, m.within))) (utf8_drop c.args.bytes.now c.in-Some.at m.within (omega (arith, quote)) u),
    )
