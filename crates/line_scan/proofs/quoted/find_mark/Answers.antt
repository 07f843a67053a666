use Rattle.line_scan.proofs.Quotes.{mark_found}
use Rattle.line_scan.proofs.quoted.find_mark.Goals as goal

pub returns : goal.returns
returns c = mark_found c.args.bytes.now c.next.new.self c.next.result (rw (← c.memchr2_iter.ensures.value) c.next.ensures.steps)
