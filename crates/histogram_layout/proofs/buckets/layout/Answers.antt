use Rattle.std.proofs.Common.{refl, rules}
use Rattle.histogram_layout.proofs.Sums.{rises}
use Rattle.histogram_layout.proofs.buckets.layout.Goals as goal

pub loop-bucket-init : goal.loop-bucket-init
loop-bucket-init c = record { bounds = search rules; counts = search rules; count = refl; rises = rises _ c.requires }
