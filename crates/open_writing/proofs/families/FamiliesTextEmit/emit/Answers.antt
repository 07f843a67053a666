use Rattle.open_writing.proofs.Parts.{page_written}
use Rattle.text_emitter.proofs.Laws.{emitted}
use Rattle.open_writing.proofs.families.FamiliesTextEmit.emit.Goals as goal

pub returns : goal.returns
returns g c = rw (page_written c.args.self.now.0.now) (simp emitted (cc))
