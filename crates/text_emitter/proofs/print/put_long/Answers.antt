use Rattle.std.proofs.Common.{sym, ◌∙◌}
use Rattle.text_emitter.proofs.PrintLaws.{piece_written, said_by_error}
use Rattle.text_emitter.proofs.print.put_long.Goals as goal

pub returns-then-not-failed : goal.returns-then-not-failed
returns-then-not-failed g c = λ p prints.
    let lost = said_by_error c.try_extend_from_slice.result _ (sym c.is_err.ensures.value ∙ c.if-is_err.true) c.try_extend_from_slice.ensures.err in
    rw (lost, c.flush.ensures.empty, c.is_err-then-not-failed.ensures.value)
    (piece_written _ _ _ _ c.args.piece.now c.write_all.result p c.write_all.ensures.whole c.write_all.ensures.front c.write_all.ensures.cause
    ((c.flush.ensures.prints p prints).going_on c.if-not-failed.true))
