use Rattle.open_writing.proofs.Parts.{quantiles_written}
use Rattle.text_emitter.proofs.Laws.{emitted}
use Rattle.open_writing.proofs.readings.emit_summary.Goals as goal

pub returns : goal.returns
returns g c =
    let metric = c.args.metric.now in
    rw (quantiles_written metric.kind metric.family.now metric.labels.now c.args.quantiles.now c.args.count c.args.sum.now) (simp emitted (cc))
