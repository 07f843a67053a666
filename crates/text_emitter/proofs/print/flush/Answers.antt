use Rattle.text_emitter.proofs.PrintLaws.{room_is_lost, room_written}
use Rattle.text_emitter.proofs.print.flush.Goals as goal
use Rattle.text_emitter.proofs.print.flush.Goals.{then-not-failed, else-not-failed}

pub returns-clause-prints : goal.returns-clause-prints
returns-clause-prints g c = λ p prints. elim c.if-not-failed.branch [
  | then-not-failed w ↦
      rw (w.output-is, w.failed-is, w.is_err.ensures.value)
      (room_written _ _ _ _ c.args.room.now w.write_all.result p
      (rw w.as_slice.ensures at w.write_all.ensures.whole) (rw w.as_slice.ensures at w.write_all.ensures.front) w.write_all.ensures.cause
      (prints.going_on w.if-not-failed.true))
  | else-not-failed w ↦ rw (w.output-is, w.failed-is) (room_is_lost _ _ c.args.room.now _ c.args.failed.now p w.if-not-failed.false prints)
]
