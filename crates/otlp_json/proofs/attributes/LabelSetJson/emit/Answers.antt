use Rattle.otlp_json.proofs.Labels.{labels_written}
use Rattle.text_emitter.proofs.Laws.{emitted}
use Rattle.otlp_json.proofs.attributes.LabelSetJson.emit.Goals as goal

pub returns : goal.returns
returns g c = rw (← c.labels.ensures, labels_written c.labels.result.now c.first-item.result c.in-len1-up.len_at_least c.first-item.is) (simp emitted (cc))
