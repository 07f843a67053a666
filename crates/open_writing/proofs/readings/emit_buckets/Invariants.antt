use Rattle.std.proofs.Common.{◌≡◌, fold, take}
use Rattle.std.specs.List.{flat_map}
use Rattle.open_writing.specs.Pieces.{sample_line}
use Rattle.open_writing.specs.Writing.{bucket_sample}
use Rattle.open_writing.proofs.readings.emit_buckets.Given as goal

abbrev pub invariant-loop-bucket : goal.invariant-loop-bucket
invariant-loop-bucket g l = l.out ≡ fold g.E.Emitter.push l.initial.out (flat_map (λ x. sample_line (bucket_sample l.metric.family.now l.metric.labels.now x)) (take l.bucket-index l.buckets))
