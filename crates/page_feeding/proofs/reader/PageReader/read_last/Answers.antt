use Rattle.std.proofs.Common.{◌≡◌, ◌+◌, ap, ◌∙◌, arith, length}
use Rattle.page_lines.specs.Feeding.{Feeding}
use Rattle.page_feeding.proofs.PageEnds.{last-refused, last-taken}
use Rattle.page_feeding.proofs.reader.PageReader.read_last.Goals as goal

pub returns : goal.returns
returns g c = λ t limit fed a.
    let number : c.read_line.new.self.lines.number ≡ 1 + length a.told = ap (λ (x : Feeding). x.number) c.in-Ok.ensures.lines ∙ a.number in
    let next : c.open_end.result.line ≡ 1 + (length a.told + 1) = omega (arith, c.open_end.ensures.line, number, a.few) in
    last-taken g.G.Grammar.format t limit fed c.args.self.now c.read_line.new.self a c.in-Ok.field-0 c.in-Ok.ensures c.open_end.result next c.open_end.ensures.clean

pub returns-in-Err : goal.returns-in-Err
returns-in-Err g c = λ t limit fed a. last-refused g.G.Grammar.format t limit fed c.args.self.now c.read_line.new.self a c.in-Err.fault c.in-Err.ensures
