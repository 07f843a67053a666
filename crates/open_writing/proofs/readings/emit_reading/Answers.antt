use Rattle.open_writing.proofs.Parts.{reading_written}
use Rattle.text_emitter.proofs.Laws.{emitted}
use Rattle.open_writing.proofs.readings.emit_reading.Goals as goal

pub returns : goal.returns
returns g c = rw (reading_written c.args.kind c.args.family.now c.args.reading.now) (simp emitted (cc))
