use Rattle.std.proofs.lemmas.Result.{IfOk-weaker}
use Rattle.page_model.specs.PageReading.{written_of}
use Rattle.line_scan.specs.LineReading.{Reads, IsRead}
use Rattle.line_scan.proofs.Laws.{line-not_utf8, line-read}
use Rattle.page_feeding.proofs.grammar.read_line.Goals as goal

pub returns-in-Ok : goal.returns-in-Ok
returns-in-Ok g c = IfOk-weaker c.read_text.result (Reads g.G.Grammar.format c.args.treatment (written_of g.G.Grammar.format c.args.line.now)) (IsRead g.G.Grammar.format c.args.treatment c.args.line.now)
    (λ read h. line-read g.G.Grammar.format c.args.treatment c.args.line.now c.requires read c.in-Ok.ensures.cases.1 h) c.read_text.ensures

pub returns-in-Err : goal.returns-in-Err
returns-in-Err g c = line-not_utf8 g.G.Grammar.format c.args.treatment c.args.line.now c.requires c.in-Err.ensures.cases.0
