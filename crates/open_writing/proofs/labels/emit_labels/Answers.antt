use Rattle.open_writing.proofs.Parts.{no_labels, labels_written}
use Rattle.text_emitter.proofs.Laws.{emitted}
use Rattle.open_writing.proofs.labels.emit_labels.Goals as goal

pub returns-in_default : goal.returns-in_default
returns-in_default g c = rw (no_labels c.args.labels.now c.in_default.len_below) (cc)

pub returns : goal.returns
returns g c = rw (labels_written c.args.labels.now c.first-item.result c.in-len1-up.len_at_least c.first-item.is) (simp emitted (cc))
