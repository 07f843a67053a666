use Rattle.open_writing.proofs.Parts.{buckets_written}
use Rattle.text_emitter.proofs.Laws.{emitted}
use Rattle.open_writing.proofs.readings.emit_histogram.Goals as goal

pub returns : goal.returns
returns g c =
    let metric = c.args.metric.now in
    rw (buckets_written metric.kind metric.family.now metric.labels.now c.args.buckets.now c.args.sum.now) (simp emitted (cc))
