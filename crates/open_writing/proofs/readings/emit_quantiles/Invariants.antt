use Rattle.std.proofs.Common.{◌≡◌, fold, take}
use Rattle.std.specs.List.{flat_map}
use Rattle.open_writing.specs.Pieces.{sample_line}
use Rattle.open_writing.specs.Writing.{quantile_sample}
use Rattle.open_writing.proofs.readings.emit_quantiles.Given as goal

abbrev pub invariant-loop-quantile : goal.invariant-loop-quantile
invariant-loop-quantile g l = l.out ≡ fold g.E.Emitter.push l.initial.out (flat_map (λ x. sample_line (quantile_sample l.metric.family.now l.metric.labels.now x)) (take l.quantile-index l.quantiles))
