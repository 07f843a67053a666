use Rattle.open_writing.proofs.Parts.{family_written}
use Rattle.text_emitter.proofs.Laws.{emitted}
use Rattle.open_writing.proofs.families.emit_family.Goals as goal

pub returns : goal.returns
returns g c = rw (family_written c.args.family.now) (simp emitted (cc))
