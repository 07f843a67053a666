use Rattle.otlp_json.proofs.Lists.{array_written}
use Rattle.text_emitter.proofs.Laws.{emitted}
use Rattle.otlp_json.proofs.json.emit_array.Goals as goal

pub returns : goal.returns
returns g c = rw (array_written g.T.Json.text c.args.items.now c.first-item.result c.in-len1-up.len_at_least c.first-item.is) (simp emitted (cc))
