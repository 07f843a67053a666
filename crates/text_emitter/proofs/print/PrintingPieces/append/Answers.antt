use Rattle.std.proofs.Common.{ap, sym, ◌∙◌, ◌++◌}
use Rattle.text_emitter.specs.Printing.{Printing, printing}
use Rattle.text_emitter.proofs.PrintLaws.{print_folded}
use Rattle.text_emitter.proofs.print.PrintingPieces.append.Goals as goal
use Rattle.text_emitter.proofs.print.PrintingPieces.append.Goals.{then-is_err, else-is_err}

pub returns : goal.returns
returns g c =
    let piece = c.args.piece.now in
    let before : Printing = record {
      name = c.self.inside.output.ghost_name;
      before = g.O.Sink.held c.self.inside.before.value;
      faults = g.O.Sink.write_faults c.self.inside.before.value;
      text = c.self.inside.all.bytes;
    } in
    let put = ap (λ (s : Printing). printing s (s.text ++ piece)) c.self.view_is ∙ sym (print_folded c.args.self.now piece) in
    elim c.if-is_err.branch [
      | then-is_err w ↦ rw w.self-inside-is (ap (printing before) (rw w.self-inside-is at c.and-self-inside.ensures) ∙ put)
      | else-is_err w ↦ rw w.self-inside-is (ap (printing before) (rw w.self-inside-is at c.and-self-inside.ensures) ∙ put)
    ]
