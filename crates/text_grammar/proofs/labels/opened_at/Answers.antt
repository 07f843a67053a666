use Rattle.std.proofs.Common.{rules, arith, ◌≡◌, get_or}
use Rattle.line_scan.proofs.Laws.{tail_slice, utf8_drop}
use Rattle.text_grammar.proofs.labels.opened_at.Goals as goal

pub returns-in-61-clause-utf8 : goal.returns-in-61-clause-utf8
returns-in-61-clause-utf8 c = λ u.
    let quote : get_or c.args.bytes.now 1 0 ≡ 34 = search rules in
    rw (tail_slice 2 c.args.bytes.now (omega (arith, c.in-61.len_at_least))) (utf8_drop c.args.bytes.now 1 (omega (arith, c.in-61.len_at_least)) (omega (arith, quote)) u)
